use Rattle.bit_subsets.specs.private.Pairs.{AreDifferentPairs}
use Rattle.bit_subsets.proofs.above.different_pairs.Given as goal

abbrev pub invariant-pairs : goal.invariant-pairs
invariant-pairs l = AreDifferentPairs l.pairs l.listed.items
