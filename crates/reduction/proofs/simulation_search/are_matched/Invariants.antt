use Rattle.std.proofs.Common.{◌<◌, ℕ, None, get_or}
use Rattle.reduction.specs.Simulation.{IsMatched}
use Rattle.reduction.proofs.simulation_search.are_matched.Given as goal

abbrev pub invariant-edges : goal.invariant-edges
invariant-edges l = (k : ℕ) → k < l.letter-index → IsMatched l.pairs l.others (get_or l.edges k (None, 0))
