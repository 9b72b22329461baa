use Rattle.std.proofs.Common.{◌-◌, ◌<◌, ◌≤◌, ℕ, length}
use Rattle.minimise.specs.private.Splitters.{AreListed, letter_at, SplitsSoundly, IsSaturated}
use Rattle.minimise.proofs.splitters.split_by_letters.Given as goal

abbrev pub invariant-runs : goal.invariant-runs
invariant-runs l = record {
  within : l.at ≤ length l.moves;
  listed : AreListed l.classes.items l.members.items;
  sound : SplitsSoundly (λ m. IsSaturated m l.moves) l.fn.classes.items l.classes.items;
  earlier : (j k : ℕ) → j < l.at → l.at ≤ k → k < length l.moves → letter_at l.moves j < letter_at l.moves k;
}

abbrev pub decreases-runs : goal.decreases-runs
decreases-runs l = length l.moves - l.at
