-- States of an automaton of which some are left out, though others of them accept along the same labels.
use Rattle.std.specs.Prelude.{ℕ, List, [], ◌∷◌, Option, Contains, IsTrue}
use Rattle.word_automata.specs.Path.{edges_of, is_accepting}
use Rattle.word_automata.specs.Nondeterministic.{NondeterministicAutomaton}

-- some path whose edges have these labels leads from the state to an accepting one
abbrev pub AcceptsAlong : NondeterministicAutomaton → ℕ → List (Option ℕ) → Type 0
AcceptsAlong n p [] = IsTrue (is_accepting n.states p)
AcceptsAlong n p (label ∷ labels) = (q : ℕ) × Contains (edges_of n.states p) (label, q) × AcceptsAlong n q labels

-- new has some of the states of old, and accepts along the same labels
pub record KeepsStarts (n : NondeterministicAutomaton) (old new : List ℕ) : Type 0 where
  pub only : (q : ℕ) → Contains new q → Contains old q
  pub kept : (q : ℕ) (labels : List (Option ℕ)) → Contains old q → AcceptsAlong n q labels → (r : ℕ) × Contains new r × AcceptsAlong n r labels
