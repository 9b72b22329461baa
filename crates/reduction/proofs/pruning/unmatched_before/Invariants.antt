use Rattle.std.proofs.Common.{take}
use Rattle.reduction.specs.private.Pruning.{DropsMatched}
use Rattle.reduction.proofs.pruning.unmatched_before.Given as goal

abbrev pub invariant-edges : goal.invariant-edges
invariant-edges l = DropsMatched l.pairs (take l.letter-index l.edges) l.kept.items
