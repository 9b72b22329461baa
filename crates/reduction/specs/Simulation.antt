-- Simulations between the states of an automaton, and edges that they make needless.
use Rattle.std.specs.Prelude.{◌≡◌, ◌⊎◌, ◌&&◌, ℕ, Bool, List, [], ◌∷◌, Option, Contains, IsTrue, eqb}
use Rattle.std.specs.List.{list_any}
use Rattle.std.specs.Option.{option_eq}
use Rattle.word_automata.specs.Path.{edges_of, is_accepting}
use Rattle.word_automata.specs.Nondeterministic.{NondeterministicAutomaton}

-- the states are one, or one of the pairs
abbrev pub IsBelow : List (ℕ × ℕ) → ℕ → ℕ → Type 0
IsBelow pairs p q = (p ≡ q) ⊎ Contains pairs (p, q)

-- one of the edges has the same label and leads to a state above the target of the edge
abbrev pub IsMatched : List (ℕ × ℕ) → List (Option ℕ × ℕ) → Option ℕ × ℕ → Type 0
IsMatched pairs edges edge = (r : ℕ) × Contains edges (edge.0, r) × IsBelow pairs edge.1 r

-- all edges are matched by the others
abbrev pub AreMatched : List (ℕ × ℕ) → List (Option ℕ × ℕ) → List (Option ℕ × ℕ) → Type 0
AreMatched pairs edges others = (edge : Option ℕ × ℕ) → Contains edges edge → IsMatched pairs others edge

-- q accepts if p does, and matches its edges
pub record IsSimulatedBy (n : NondeterministicAutomaton) (pairs : List (ℕ × ℕ)) (p q : ℕ) : Type 0 where
  pub accepts : IsTrue (is_accepting n.states p) → IsTrue (is_accepting n.states q)
  pub matched : AreMatched pairs (edges_of n.states p) (edges_of n.states q)

-- the pairs are a simulation
abbrev pub IsSimulation : NondeterministicAutomaton → List (ℕ × ℕ) → Type 0
IsSimulation n pairs = (p q : ℕ) → Contains pairs (p, q) → IsSimulatedBy n pairs p q

-- whether some path whose edges have these labels leads from the state to an accepting one
abbrev pub accepts_along : NondeterministicAutomaton → ℕ → List (Option ℕ) → Bool
accepts_along n p [] = is_accepting n.states p
accepts_along n p (label ∷ labels) = list_any (λ (edge : Option ℕ × ℕ). option_eq eqb edge.0 label && accepts_along n edge.1 labels) (edges_of n.states p)

-- the second state of each pair accepts along the labels along which the first one does
abbrev pub AreIncluded : NondeterministicAutomaton → List (ℕ × ℕ) → Type 0
AreIncluded n pairs = (p q : ℕ) → Contains pairs (p, q) → (labels : List (Option ℕ)) → IsTrue (accepts_along n p labels) → IsTrue (accepts_along n q labels)
