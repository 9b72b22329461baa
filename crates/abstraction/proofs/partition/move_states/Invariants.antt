use Rattle.std.proofs.Common.{take}
use Rattle.abstraction.proofs.Blocks.{HasMoved}
use Rattle.abstraction.proofs.partition.move_states.Given as goal

abbrev pub invariant-states : goal.invariant-states
invariant-states l = HasMoved l.first_new l.fn.blocks.items l.blocks.items l.moved.items (take l.state-index l.set)
