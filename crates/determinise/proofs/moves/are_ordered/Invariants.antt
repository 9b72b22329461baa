use Rattle.std.proofs.Common.{◌+◌, ◌<◌, ◌≤◌, ℕ}
use Rattle.determinise.specs.private.Subsets.{letter_of}
use Rattle.determinise.proofs.moves.are_ordered.Given as goal

abbrev pub invariant-moves : goal.invariant-moves
invariant-moves l = (k : ℕ) → k + 1 < l.at → letter_of l.moves k ≤ letter_of l.moves (k + 1)
