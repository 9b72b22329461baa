-- Transducers that exchange what stands at the two ends of a word and copy what lies between, and the words that they relate.
use Rattle.std.specs.Prelude.{◌≡◌, ℕ, ◌+◌, ◌<◌, true, false, List, [], ◌∷◌, ◌++◌, map, Option, None, Some, IfSome}
use Rattle.std.specs.Option.{option_to_list}
use Rattle.word_automata.specs.Path.{Node, spelled_one}
use Rattle.transducers.specs.declared.Label.{Label}
use Rattle.transducers.specs.Combination.{copy_edges}
use Rattle.protocol_model.specs.System.{AllBelow}
use Rattle.protocol_model.specs.Words.{raised}

-- a label over so many letters
pub record IsLabel (letters : ℕ) (label : Label) : Type 0 where
  pub read_in_range : IfSome label.read (λ a. a < letters)
  pub write_in_range : IfSome label.write (λ a. a < letters)

-- the label that only reads the letter, and the one that only writes it
abbrev pub reading : ℕ → Label
reading a = record { read = Some a; write = None }

abbrev pub writing : ℕ → Label
writing a = record { read = None; write = Some a }

-- the labels that read the popped letter, if there is one, and then write the pushed ones
abbrev pub pop_prefix : ℕ → Option ℕ → List Label
pop_prefix offset None = []
pop_prefix offset (Some a) = reading (a + offset) ∷ []

abbrev pub stack_prefix : ℕ → Option ℕ → List ℕ → List Label
stack_prefix offset pop push = pop_prefix offset pop ++ map (λ a. writing (a + offset)) push

-- the edges to a state on which a letter of the set, raised, is read and not written
abbrev pub cut_edges : ℕ → List ℕ → ℕ → List (Label × ℕ)
cut_edges offset set to = map (λ a. (reading (a + offset), to)) set

-- a state that copies letters before the cut, and one that copies letters behind it
abbrev pub cutting_states : List ℕ → ℕ → ℕ → List (Node Label)
cutting_states set offset count =
    record { accepting = false; edges = copy_edges offset count 0 ++ cut_edges offset set 1 }
    ∷ record { accepting = true; edges = copy_edges offset count 1 }
    ∷ []

-- the word that the labels read one after the other, and the word that they write
abbrev pub read_word : List Label → List ℕ
read_word [] = []
read_word (label ∷ labels) = spelled_one label.read ++ read_word labels

abbrev pub written_word : List Label → List ℕ
written_word [] = []
written_word (label ∷ labels) = spelled_one label.write ++ written_word labels

-- some list over the section's letters stands raised in both words, behind what the prefix reads and writes, and before what the suffix does
pub record IsCopiedBetween (prefix : List Label) (suffix : Option Label) (offset count : ℕ) (u w : List ℕ) : Type 0 where
  pub copied : List ℕ
  pub in_range : AllBelow count copied
  pub reads : u ≡ read_word prefix ++ (raised offset copied ++ read_word (option_to_list suffix))
  pub writes : w ≡ written_word prefix ++ (raised offset copied ++ written_word (option_to_list suffix))

-- states with numbers from n on, one for each label, which leads to the next state
abbrev pub chain : ℕ → List Label → List (Node Label)
chain n [] = []
chain n (label ∷ labels) = record { accepting = false; edges = (label, n + 1) ∷ [] } ∷ chain (n + 1) labels

-- the state with number n, which copies letters, and the state behind the suffix
abbrev pub copying_end : ℕ → ℕ → ℕ → Option Label → List (Node Label)
copying_end n offset count None = record { accepting = true; edges = copy_edges offset count n } ∷ []
copying_end n offset count (Some label) =
    record { accepting = false; edges = copy_edges offset count n ++ (label, n + 1) ∷ [] }
    ∷ record { accepting = true; edges = [] }
    ∷ []
