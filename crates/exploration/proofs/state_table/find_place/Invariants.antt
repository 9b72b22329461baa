use Rattle.exploration.proofs.Slots.{IsNotIn}
use Rattle.exploration.proofs.state_table.find_place.Given as goal

abbrev pub invariant-steps : goal.invariant-steps
invariant-steps g l = record { before : IsNotIn l.states l.slots l.state l.code l.step }
