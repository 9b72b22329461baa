use Rattle.std.proofs.Common.{◌≡◌, ℕ, ◌<◌, get_or, false}
use Rattle.word_automata.specs.Path.{is_accepting}
use Rattle.reduction.proofs.silent_edges.accepts_one.Given as goal

abbrev pub invariant-states : goal.invariant-states
invariant-states l = (k : ℕ) → k < l.state-index → is_accepting l.automaton.states (get_or l.states k 0) ≡ false
