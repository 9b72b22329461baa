use Rattle.exploration.proofs.Slots.{MovesSlots}
use Rattle.exploration.proofs.state_table.enlarged.Given as goal

abbrev pub invariant-old : goal.invariant-old
invariant-old l = record { moves : MovesSlots l.slots l.more.items l.code-index }
