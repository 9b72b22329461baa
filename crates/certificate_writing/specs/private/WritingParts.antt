-- The parts of the texts of automata as they are written.
use Rattle.std.specs.Prelude.{ℕ, List, [], ◌∷◌, ◌++◌, length, flat_map, codes, decimal}
use Rattle.word_automata.specs.Path.{edges_of}
use Rattle.word_automata.specs.Automaton.{Automaton}
use Rattle.protocol_model.specs.System.{SystemData}
use Rattle.certificate.specs.SafeText.{letters_text, lines_text, states_line}
use Rattle.certificate_writing.specs.Writing.{final_states, lines_from}

-- the line of an accepting state, with its line feed
abbrev pub final_text : ℕ → List ℕ
final_text q = codes "final " ++ decimal q ++ 10 ∷ []

-- the text before the lines of edges: this line, those that name letters, the number of states, and the accepting states
abbrev pub opening_text : List ℕ → List ℕ → SystemData → Automaton → List ℕ
opening_text first letters s m =
    (((first ++ 10 ∷ []) ++ letters_text s letters) ++ (states_line (length m.states) ++ 10 ∷ [])) ++ flat_map final_text (final_states m)

-- the text of the lines of the edges that leave the state q, each with its letter
abbrev pub named_text_from : SystemData → Automaton → ℕ → List ℕ
named_text_from s m q = lines_text s (lines_from q (edges_of m.states q))
