use Rattle.std.proofs.Common.{◌≡◌, ◌<◌, ℕ, None, get_or}
use Rattle.determinise.proofs.silent.has_silent_edge.Given as goal

abbrev pub invariant-edges : goal.invariant-edges
invariant-edges l = (k : ℕ) → k < l.letter-index → (get_or l.edges k (None, 0)).0 ≡ None → ⊥
