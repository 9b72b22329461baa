-- What the states of a nondeterministic automaton accept, and states that are added to one.
use Rattle.std.specs.Prelude.{◌≡◌, ◌==◌, ◌<◌, ◌≤◌, ◌↔◌, ℕ, List, ◌∷◌, ◌++◌, map, Option, Some, Contains, All, IsTrue, length, if◌then◌else◌}
use Rattle.word_automata.specs.Path.{edges_of, is_accepting, IsPath, spelled}
use Rattle.word_automata.specs.Nondeterministic.{NondeterministicAutomaton}

-- some path from the state to an accepting state spells the word
pub record AcceptsFrom (n : NondeterministicAutomaton) (state : ℕ) (w : List ℕ) : Type 0 where
  pub moves : List (Option ℕ × ℕ)
  pub end : ℕ
  pub path : IsPath n.states state moves end
  pub accepting : IsTrue (is_accepting n.states end)
  pub spells : spelled (λ l. l) moves ≡ w

-- the word is one of the letters and then a word of the language
pub record BeginsWithLetter (letters : List ℕ) (language : List ℕ → Type 0) (w : List ℕ) : Type 0 where
  pub letter : ℕ
  pub rest : List ℕ
  pub is_letter : Contains letters letter
  pub joined : w ≡ letter ∷ rest
  pub accepted : language rest

-- the word is none or more of the letters and then a word of the language
pub record BeginsWithLetters (letters : List ℕ) (language : List ℕ → Type 0) (w : List ℕ) : Type 0 where
  pub front : List ℕ
  pub rest : List ℕ
  pub are_letters : All (λ a. Contains letters a) front
  pub joined : w ≡ front ++ rest
  pub accepted : language rest

-- new has the states of old, which accept what they did, and among its states this one, which accepts the words of the language
pub record IsAdded (old new : NondeterministicAutomaton) (state : ℕ) (language : List ℕ → Type 0) : Type 0 where
  pub same_letters : new.letters ≡ old.letters
  pub same_starts : new.starts ≡ old.starts
  pub more : length old.states ≤ length new.states
  pub is_state : state < length new.states
  pub kept : (q : ℕ) → q < length old.states → (w : List ℕ) → AcceptsFrom new q w ↔ AcceptsFrom old q w
  pub accepts : (w : List ℕ) → AcceptsFrom new state w ↔ language w

-- new has behind the edges of the state one more on each letter
pub record AddsLetterEdges (old new : NondeterministicAutomaton) (from : ℕ) (letters : List ℕ) (to : ℕ) : Type 0 where
  pub same_letters : new.letters ≡ old.letters
  pub same_starts : new.starts ≡ old.starts
  pub same_size : length new.states ≡ length old.states
  pub same_acceptance : (q : ℕ) → is_accepting new.states q ≡ is_accepting old.states q
  pub edges : (q : ℕ) → edges_of new.states q
      ≡ (if q == from then edges_of old.states q ++ map (λ a. (Some a, to)) letters else edges_of old.states q)
