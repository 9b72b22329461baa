-- Transducers and the words that they relate.
use Rattle.std.specs.Prelude.{◌≡◌, ◌<◌, ℕ, List, Option, IfSome, IsTrue, All, Contains, length}
use Rattle.word_automata.specs.Path.{Node, IsPath, is_accepting, spelled}
use Rattle.transducers.specs.declared.Label.{Label}

-- the number of letters, the start states, and the states, whose edges have a label and a target each
pub record Transducer : Type 0 where
  pub letters : ℕ
  pub starts : List ℕ
  pub states : List (Node Label)

-- an edge of a transducer with so many letters and states: its letters and its target are in range
pub record IsEdge (letters states : ℕ) (edge : Label × ℕ) : Type 0 where
  pub read_in_range : IfSome edge.0.read (λ a. a < letters)
  pub write_in_range : IfSome edge.0.write (λ a. a < letters)
  pub target_in_range : edge.1 < states

-- every start state is there, and so is every edge's target, and every letter is one of the transducer's
pub record IsValid (t : Transducer) : Type 0 where
  pub starts_in_range : All (λ q. q < length t.states) t.starts
  pub edges_in_range : All (λ node. All (IsEdge t.letters (length t.states)) node.edges) t.states

-- the letter that a label reads, and the letter that it writes
abbrev pub read_of : Label → Option ℕ
read_of label = label.read

abbrev pub write_of : Label → Option ℕ
write_of label = label.write

-- some path from the state p to an accepting state reads u and writes w
pub record RelatesFrom (t : Transducer) (p : ℕ) (u w : List ℕ) : Type 0 where
  pub moves : List (Label × ℕ)
  pub last : ℕ
  pub path : IsPath t.states p moves last
  pub accepts : IsTrue (is_accepting t.states last)
  pub reads : spelled read_of moves ≡ u
  pub writes : spelled write_of moves ≡ w

-- the transducer relates u to w: some path from a start state to an accepting state reads u and writes w
pub record Relates (t : Transducer) (u w : List ℕ) : Type 0 where
  pub start : ℕ
  pub is_start : Contains t.starts start
  pub run : RelatesFrom t start u w
