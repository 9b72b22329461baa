use Rattle.std.proofs.Common.{◌≡◌, ◌-◌, ◌<◌, ◌≤◌, ℕ, length}
use Rattle.determinise.specs.private.Subsets.{letter_of}
use Rattle.determinise.proofs.moves.end_of_run.Given as goal

abbrev pub invariant-run : goal.invariant-run
invariant-run l = record {
  some : l.at < l.end;
  within : l.end ≤ length l.moves;
  same : (k : ℕ) → l.at ≤ k → k < l.end → letter_of l.moves k ≡ letter_of l.moves l.at;
}

abbrev pub decreases-run : goal.decreases-run
decreases-run l = length l.moves - l.end
