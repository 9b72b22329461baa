-- Canonical automata: one for each number of letters and language.
use Rattle.std.specs.Prelude.{◌≡◌, ◌<◌, ◌≤◌, ℕ, List, length, IsTrue}
use Rattle.word_automata.specs.Automaton.{Automaton, accepts, accepts_from, IsValid}
use Rattle.exploration.specs.Numbering.{IsBreadthFirst}

-- every state is reached from state 0, with numbers by the least words that lead to the states; every state reaches an accepting
-- state; and any two states are told apart by some word
pub record IsCanonical (m : Automaton) : Type 0 where
  pub valid : IsValid m
  pub breadth_first : IsBreadthFirst m
  pub live : (q : ℕ) → q < length m.states → (w : List ℕ) × IsTrue (accepts_from m q w)
  pub told_apart : (p q : ℕ) → p < q → q < length m.states → (w : List ℕ) × (accepts_from m p w ≡ accepts_from m q w → ⊥)

-- the automata accept the same words
abbrev pub SameLanguage : Automaton → Automaton → Type 0
SameLanguage m n = (w : List ℕ) → accepts m w ≡ accepts n w

-- canonical automata over the same letters that accept the same words are equal as data
abbrev pub CanonicalIsUnique : Type 0
CanonicalIsUnique = (m n : Automaton) → IsCanonical m → IsCanonical n → m.letters ≡ n.letters → SameLanguage m n → m ≡ n

-- a canonical automaton has at most as many states as any automaton of its language
abbrev pub CanonicalIsLeast : Type 0
CanonicalIsLeast = (m n : Automaton) → IsCanonical m → SameLanguage m n → length m.states ≤ length n.states
