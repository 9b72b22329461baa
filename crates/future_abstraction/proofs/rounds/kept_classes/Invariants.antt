use Rattle.std.proofs.Common.{◌≡◌, ◌<◌, ℕ, true, slice_index}
use Rattle.future_abstraction.specs.private.Numbers.{is_kept, IsUnmoved}
use Rattle.future_abstraction.proofs.rounds.kept_classes.Given as goal

abbrev pub invariant-states : goal.invariant-states
invariant-states l = (q : ℕ) → q < l.state → is_kept l.kept.items (slice_index l.classes q) ≡ true → IsUnmoved l.automaton l.older l.classes q
