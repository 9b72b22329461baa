-- What the calls of a builder change of the transducer so far.
use Rattle.std.specs.Prelude.{ℕ, Bool, zero, suc, List, [], ◌∷◌, ◌++◌}
use Rattle.word_automata.specs.Path.{Node}
use Rattle.transducers.specs.declared.Label.{Label}
use Rattle.transducers.specs.Transducer.{Transducer}

-- no start and no state
abbrev pub without_states : ℕ → Transducer
without_states letters = record { letters = letters; starts = []; states = [] }

-- one more state, after the others, that has no edge
abbrev pub with_state : Transducer → Bool → Transducer
with_state t accepting = record t { states = t.states ++ (record { accepting = accepting; edges = [] }) ∷ [] }

-- one more start state
abbrev pub with_start : Transducer → ℕ → Transducer
with_start t q = record t { starts = t.starts ++ q ∷ [] }

-- the states with more edges from the state p, after its others
abbrev pub add_edges : List (Node Label) → ℕ → List (Label × ℕ) → List (Node Label)
add_edges [] p edges = []
add_edges (node ∷ nodes) zero edges = record node { edges = node.edges ++ edges } ∷ nodes
add_edges (node ∷ nodes) (suc p) edges = node ∷ add_edges nodes p edges

-- more edges from the state p
abbrev pub with_edges : Transducer → ℕ → List (Label × ℕ) → Transducer
with_edges t p edges = record t { states = add_edges t.states p edges }
