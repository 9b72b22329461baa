use Rattle.std.proofs.Common.{◌≡◌, ◌<◌, ℕ}
use Rattle.word_automata.specs.Path.{edges_of, is_accepting}
use Rattle.minimise.proofs.canon.is_equal.Given as goal

abbrev pub invariant-states : goal.invariant-states
invariant-states l = (q : ℕ) → q < l.state → (is_accepting l.a.states q ≡ is_accepting l.b.states q) × (edges_of l.a.states q ≡ edges_of l.b.states q)
