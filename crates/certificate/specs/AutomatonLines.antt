-- Automata as lines: accepting states and edges.
use Rattle.std.specs.Prelude.{◌≡◌, ◌<◌, ◌↔◌, ◌≢◌, ℕ, List, [], ◌∷◌, IsTrue, Contains, All, AllPairs, Some, map, length, get_or}
use Rattle.std.specs.List.{flat_map}
use Rattle.word_automata.specs.Path.{is_accepting}
use Rattle.word_automata.specs.Automaton.{Automaton, target, IsValid}
use Rattle.protocol_model.specs.System.{SystemData}
use Rattle.protocol_model.specs.Words.{automata_letters}

-- the version of the text of an automaton: 1, where an edge names its letter; or 2, where edges have indices of these letters, each of which
-- has a line of its own
pub data Version : Type 0 where
  One : Version
  Two : List ℕ → Version

-- a line after the number of states: a state accepts; from a state a letter leads to a state; or from a state the letters with these indices
-- lead to a state
pub data Line : Type 0 where
  Final : ℕ → Line
  Edge : ℕ → ℕ → ℕ → Line
  Edges : ℕ → ℕ → List ℕ → Line

-- the letters that are named by lines of their own
abbrev pub letters_of : Version → List ℕ
letters_of One = []
letters_of (Two letters) = letters

-- the version in which an edge names its letter, and that in which it has indices of letters
abbrev pub NamesLetters : Version → Type 0
NamesLetters One = Unit {0}
NamesLetters (Two letters) = ⊥

abbrev pub HasIndices : Version → Type 0
HasIndices One = ⊥
HasIndices (Two letters) = Unit {0}

-- the letters are those of the system's automata, each at most once
pub record AreLettersOf (s : SystemData) (letters : List ℕ) : Type 0 where
  pub in_alphabet : All (λ a. a < automata_letters s) letters
  pub distinct : AllPairs ◌≢◌ letters

-- the line is one of the version; states are below the number of states, letters are those of the system's automata, and indices
-- are below the number of letters that are named
abbrev pub IsInRange : Version → ℕ → ℕ → Line → Type 0
IsInRange v size count (Final q) = q < count
IsInRange v size count (Edge p a q) = (p < count) × (a < size) × (q < count) × NamesLetters v
IsInRange v size count (Edges p q indices) =
    (p < count) × (q < count) × All (λ i. i < length (letters_of v)) indices × (0 < length indices) × HasIndices v

-- the states and edges of a line one by one, with the letter in place of each index
abbrev pub said_by : Version → Line → List Line
said_by v (Final q) = Final q ∷ []
said_by v (Edge p a q) = Edge p a q ∷ []
said_by v (Edges p q indices) = map (λ i. Edge p (get_or (letters_of v) i 0) q) indices

abbrev pub all_said : Version → List Line → List Line
all_said v lines = flat_map (said_by v) lines

-- two of them are no edges with one source and one letter
abbrev pub AreNoTwoEdges : Line → Line → Type 0
AreNoTwoEdges (Final q) line = Unit {0}
AreNoTwoEdges (Edge p a q) (Final r) = Unit {0}
AreNoTwoEdges (Edge p a q) (Edge p' a' q') = p ≡ p' → a ≡ a' → ⊥
AreNoTwoEdges (Edge p a q) (Edges p' q' indices) = Unit {0}
AreNoTwoEdges (Edges p q indices) line = Unit {0}

-- no two edges of the lines have one source and one letter
abbrev pub HaveNoTwoEdges : Version → List Line → Type 0
HaveNoTwoEdges v lines = AllPairs AreNoTwoEdges (all_said v lines)

-- the automaton has so many letters and states; its accepting states and its edges are those of the lines
pub record IsAutomatonOf (size count : ℕ) (lines : List Line) (m : Automaton) : Type 0 where
  pub valid : IsValid m
  pub letters_are : m.letters ≡ size
  pub states_are : length m.states ≡ count
  pub final_lines : (q : ℕ) → IsTrue (is_accepting m.states q) ↔ Contains lines (Final q)
  pub edge_lines : (p a q : ℕ) → (target m p a ≡ Some q) ↔ Contains lines (Edge p a q)
