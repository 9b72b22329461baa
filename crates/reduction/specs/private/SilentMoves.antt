-- Automata without edges without a letter, whose states have the edges of the states that such edges reach.
use Rattle.std.specs.Prelude.{◌≡◌, ◌↔◌, ◌⊎◌, ◌<◌, ◌≤◌, ℕ, List, [], ◌∷◌, Option, None, Contains, IsTrue, length}
use Rattle.word_automata.specs.Path.{edges_of, is_accepting}
use Rattle.word_automata.specs.Nondeterministic.{NondeterministicAutomaton}
use Rattle.word_automata.specs.StateSets.{IsClosure}

-- the edge has a letter
abbrev pub IsLettered : Option ℕ × ℕ → Type 0
IsLettered edge = edge.0 ≡ None → ⊥

-- new has what old has, and the edges with a letter
pub record AddsLettered (edges old new : List (Option ℕ × ℕ)) : Type 0 where
  pub kept : (edge : Option ℕ × ℕ) → Contains old edge → Contains new edge
  pub added : (edge : Option ℕ × ℕ) → Contains edges edge → IsLettered edge → Contains new edge
  pub only : (edge : Option ℕ × ℕ) → Contains new edge → Contains old edge ⊎ (Contains edges edge × IsLettered edge)

-- the edges with a letter of the states
pub record AreMovesOf (n : NondeterministicAutomaton) (states : List ℕ) (edges : List (Option ℕ × ℕ)) : Type 0 where
  pub lettered : (edge : Option ℕ × ℕ) → Contains edges edge → IsLettered edge
  pub from : (edge : Option ℕ × ℕ) → Contains edges edge → (q : ℕ) × Contains states q × Contains (edges_of n.states q) edge
  pub to : (q : ℕ) (edge : Option ℕ × ℕ) → Contains states q → Contains (edges_of n.states q) edge → IsLettered edge → Contains edges edge

-- one of the states accepts
abbrev pub AcceptsOne : NondeterministicAutomaton → List ℕ → Type 0
AcceptsOne n states = (q : ℕ) × Contains states q × IsTrue (is_accepting n.states q)

-- m accepts p where edges of n without a letter lead from p to an accepting state
pub record AcceptsSilently (n m : NondeterministicAutomaton) (p : ℕ) : Type 0 where
  pub reached : List ℕ
  pub closure : IsClosure n (p ∷ []) reached
  pub accepts : IsTrue (is_accepting m.states p) ↔ AcceptsOne n reached

-- the state p of m has the edges with a letter of the states that edges of n without one reach from p
pub record MovesSilently (n m : NondeterministicAutomaton) (p : ℕ) : Type 0 where
  pub reached : List ℕ
  pub closure : IsClosure n (p ∷ []) reached
  pub moves : AreMovesOf n reached (edges_of m.states p)

-- m has the first states of n without edges
pub record IsFlagged (n m : NondeterministicAutomaton) (next : ℕ) : Type 0 where
  pub same_letters : m.letters ≡ n.letters
  pub no_starts : m.starts ≡ []
  pub count : length m.states ≡ next
  pub accepts : (p : ℕ) → p < next → AcceptsSilently n m p
  pub alone : (p : ℕ) → edges_of m.states p ≡ []

-- m has the states of n, the first ones with their edges; the others have none yet
pub record IsFreed (n m : NondeterministicAutomaton) (next : ℕ) : Type 0 where
  pub same_letters : m.letters ≡ n.letters
  pub same_starts : m.starts ≡ n.starts
  pub same_size : length m.states ≡ length n.states
  pub accepts : (p : ℕ) → p < length n.states → AcceptsSilently n m p
  pub done : (p : ℕ) → p < next → MovesSilently n m p
  pub later : (p : ℕ) → next ≤ p → edges_of m.states p ≡ []
