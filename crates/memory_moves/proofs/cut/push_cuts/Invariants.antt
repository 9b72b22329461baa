use Rattle.std.proofs.Common.{◌≡◌, ◌++◌, take}
use Rattle.memory_moves.specs.private.Machine.{cut_edges}
use Rattle.memory_moves.proofs.cut.push_cuts.Given as goal

abbrev pub invariant-letters : goal.invariant-letters
invariant-letters l = l.edges.items ≡ l.fn.edges.items ++ cut_edges l.alphabet.offset (take l.letter-index l.set) 1
