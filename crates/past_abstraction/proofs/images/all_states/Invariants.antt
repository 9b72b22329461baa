use Rattle.std.proofs.Common.{◌<◌, ◌↔◌, ℕ, Contains}
use Rattle.past_abstraction.proofs.images.all_states.Given as goal

abbrev pub invariant-states : goal.invariant-states
invariant-states l = (p : ℕ) → Contains l.numbers.items p ↔ (p < l.state)
