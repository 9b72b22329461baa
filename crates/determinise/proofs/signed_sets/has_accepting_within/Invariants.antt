use Rattle.std.proofs.Common.{◌<◌, ℕ, IsTrue}
use Rattle.word_automata.specs.Path.{is_accepting}
use Rattle.atoms.specs.Covers.{IsWithin}
use Rattle.determinise.proofs.signed_sets.has_accepting_within.Given as goal

abbrev pub invariant-states : goal.invariant-states
invariant-states l = (q : ℕ) → q < l.state → IsWithin l.atoms l.signature q → IsTrue (is_accepting l.automaton.states q) → ⊥
