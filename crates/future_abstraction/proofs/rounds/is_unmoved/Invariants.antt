use Rattle.std.proofs.Common.{◌≡◌, ◌<◌, ℕ, get_or, slice_index}
use Rattle.future_abstraction.proofs.rounds.is_unmoved.Given as goal

abbrev pub invariant-edges : goal.invariant-edges
invariant-edges l = (i : ℕ) → i < l.to-index → slice_index l.older (get_or l.edges i (0, 0)).1 ≡ slice_index l.classes (get_or l.edges i (0, 0)).1
