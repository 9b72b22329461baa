-- Copies of an automaton with fewer start states and edges that accept the same words.
use Rattle.std.specs.Prelude.{◌≡◌, ◌<◌, ◌≤◌, ◌++◌, ℕ, List, [], map, Option, Contains, length}
use Rattle.word_automata.specs.Path.{Node, edges_of, is_accepting}
use Rattle.word_automata.specs.Nondeterministic.{NondeterministicAutomaton}
use Rattle.reduction.specs.Reduction.{AcceptsAlong, KeepsStarts}

-- the state without its edges
abbrev pub without_edges : Node (Option ℕ) → Node (Option ℕ)
without_edges node = record { accepting = node.accepting; edges = [] }

-- the automaton without its edges and start states
abbrev pub states_alone : NondeterministicAutomaton → NondeterministicAutomaton
states_alone n = record { letters = n.letters; starts = []; states = map without_edges n.states }

-- the automaton with more start states
abbrev pub with_starts : NondeterministicAutomaton → List ℕ → NondeterministicAutomaton
with_starts n starts = record { letters = n.letters; starts = n.starts ++ starts; states = n.states }

-- new has the edges at the end of the state's, and is as old in everything else
pub record AddsEdges (state : ℕ) (edges : List (Option ℕ × ℕ)) (old new : NondeterministicAutomaton) : Type 0 where
  pub same_letters : new.letters ≡ old.letters
  pub same_starts : new.starts ≡ old.starts
  pub same_size : length new.states ≡ length old.states
  pub same_acceptance : (q : ℕ) → is_accepting new.states q ≡ is_accepting old.states q
  pub edges_here : edges_of new.states state ≡ edges_of old.states state ++ edges
  pub edges_else : (p : ℕ) → (p ≡ state → ⊥) → edges_of new.states p ≡ edges_of old.states p

-- new has some of the edges of old, and accepts along the same labels
pub record KeepsEdges (n : NondeterministicAutomaton) (old new : List (Option ℕ × ℕ)) : Type 0 where
  pub only : (edge : Option ℕ × ℕ) → Contains new edge → Contains old edge
  pub kept : (label : Option ℕ) (q : ℕ) (labels : List (Option ℕ)) → Contains old (label, q) → AcceptsAlong n q labels
      → (r : ℕ) × Contains new (label, r) × AcceptsAlong n r labels

-- the automaton m is n with fewer start states, and fewer edges of the first states; the others have none yet
pub record IsReduced (n m : NondeterministicAutomaton) (next : ℕ) : Type 0 where
  pub same_letters : m.letters ≡ n.letters
  pub same_size : length m.states ≡ length n.states
  pub same_acceptance : (q : ℕ) → is_accepting m.states q ≡ is_accepting n.states q
  pub starts : KeepsStarts n n.starts m.starts
  pub done : (p : ℕ) → p < next → KeepsEdges n (edges_of n.states p) (edges_of m.states p)
  pub later : (p : ℕ) → next ≤ p → edges_of m.states p ≡ []
