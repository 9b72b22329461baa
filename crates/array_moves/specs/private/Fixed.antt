-- The states of the machines for moves that change two positions.
use Rattle.std.specs.Prelude.{◌==◌, ℕ, ◌+◌, Bool, true, false, List, [], ◌∷◌, ◌++◌, length, if◌then◌else◌}
use Rattle.word_automata.specs.Path.{Node}
use Rattle.protocol_model.specs.System.{Move}
use Rattle.protocol_syntax.specs.declared.protocol.Move.TheVariants.{Pair, Ring, Two}
use Rattle.transducers.specs.declared.Label.{Label}
use Rattle.transducers.specs.Combination.{exchange, copy_edges}

-- the edge on which a letter x becomes y
abbrev pub exchange_edge : ℕ → ℕ → ℕ → ℕ → Label × ℕ
exchange_edge offset x y to = (exchange (x + offset) (y + offset), to)

-- the state of this number that copies the letters and stays, or copies none, and has further edges; it accepts where there are none
abbrev pub copying_state : ℕ → ℕ → ℕ → Bool → List (Label × ℕ) → Node Label
copying_state offset count number copies further = record {
  accepting = length further == 0;
  edges = copy_edges offset (if copies then count else 0) number ++ further;
}

-- before the first of the two neighbours, between them, and after them
abbrev pub pair_states : ℕ → ℕ → ℕ → ℕ → ℕ → ℕ → List (Node Label)
pair_states a b c d offset count =
    copying_state offset count 0 true (exchange_edge offset a c 1 ∷ [])
    ∷ copying_state offset count 1 false (exchange_edge offset b d 2 ∷ [])
    ∷ copying_state offset count 2 true []
    ∷ []

-- before the first position, after it, and after the last one
abbrev pub ring_states : ℕ → ℕ → ℕ → ℕ → ℕ → ℕ → List (Node Label)
ring_states a b c d offset count =
    copying_state offset count 0 false (exchange_edge offset b d 1 ∷ [])
    ∷ copying_state offset count 1 true (exchange_edge offset a c 2 ∷ [])
    ∷ copying_state offset count 2 false []
    ∷ []

-- no position has changed, that of a has, that of b has, and both have
abbrev pub two_states : ℕ → ℕ → ℕ → ℕ → ℕ → ℕ → List (Node Label)
two_states a b c d offset count =
    copying_state offset count 0 true (exchange_edge offset a c 1 ∷ exchange_edge offset b d 2 ∷ [])
    ∷ copying_state offset count 1 true (exchange_edge offset b d 3 ∷ [])
    ∷ copying_state offset count 2 true (exchange_edge offset a c 3 ∷ [])
    ∷ copying_state offset count 3 true []
    ∷ []

-- the move changes two positions
abbrev pub ChangesTwoPositions : Move → Type 0
ChangesTwoPositions (Pair a b c d) = Unit {0}
ChangesTwoPositions (Ring a b c d) = Unit {0}
ChangesTwoPositions (Two a b c d) = Unit {0}
ChangesTwoPositions _ = ⊥

-- the states of its machine; there are none for other moves
abbrev pub fixed_states : Move → ℕ → ℕ → List (Node Label)
fixed_states (Pair a b c d) offset count = pair_states a b c d offset count
fixed_states (Ring a b c d) offset count = ring_states a b c d offset count
fixed_states (Two a b c d) offset count = two_states a b c d offset count
fixed_states _ offset count = []
