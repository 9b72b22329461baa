use Rattle.std.proofs.Common.{All}
use Rattle.std.specs.Vec.Iter.{into_iter_items}
use Rattle.bit_subsets.specs.Subsets.{IsSubset}
use Rattle.determinise.specs.private.Signatures.{AreSigned}
use Rattle.determinise.proofs.signed_sets.signed_successors.Given as goal

abbrev pub invariant-pairs : goal.invariant-pairs
invariant-pairs l =
    goal.iterator-pairs.can_next l.letter-iterator
    × goal.iterator-pairs.is_finite l.letter-iterator
    × AreSigned l.atoms l.yielded l.successors.items
    × All (λ pair. IsSubset l.subsets.automaton.now pair.1) (into_iter_items l.letter-iterator)
