use Rattle.std.proofs.Common.{◌≡◌, take}
use Rattle.memory_moves.specs.private.Machine.{stack_prefix}
use Rattle.memory_moves.proofs.stack_prefix.Given as goal

abbrev pub invariant-pushed : goal.invariant-pushed
invariant-pushed l = l.labels.items ≡ stack_prefix l.alphabet.offset l.fn.pop (take l.letter-index l.push)
