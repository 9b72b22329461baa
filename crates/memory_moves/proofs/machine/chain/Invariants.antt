use Rattle.std.proofs.Common.{◌≡◌, take}
use Rattle.memory_moves.specs.private.Machine.{chain}
use Rattle.memory_moves.proofs.machine.chain.Given as goal

abbrev pub invariant-labels : goal.invariant-labels
invariant-labels l = l.states.items ≡ chain 0 (take l.i l.labels)
