-- The texts that are written.
pub use Rattle.certificate.specs.RunText.{run_text}
use Rattle.std.specs.Prelude.{ℕ, List, [], ◌∷◌, ◌++◌, filter, map, length, codes, decimal, flat_map}
use Rattle.std.specs.List.{range_with_len}
use Rattle.word_automata.specs.Path.{edges_of, is_accepting}
use Rattle.word_automata.specs.Automaton.{Automaton}
use Rattle.protocol_model.specs.System.{SystemData}
use Rattle.certificate.specs.SafeText.{Line, Final, Edge, text_under}

-- the numbers of the accepting states, in their order
abbrev pub final_states : Automaton → List ℕ
final_states m = filter (is_accepting m.states) (range_with_len 0 (length m.states))

-- the lines of these edges, which leave the state q
abbrev pub lines_from : ℕ → List (ℕ × ℕ) → List Line
lines_from q edges = map (λ edge. Edge q edge.0 edge.1) edges

-- the lines of the edges, by source and then by letter
abbrev pub edge_lines : Automaton → List Line
edge_lines m = flat_map (λ q. lines_from q (edges_of m.states q)) (range_with_len 0 (length m.states))

-- the lines of an automaton: those of its accepting states, and then those of its edges
abbrev pub written_lines : Automaton → List Line
written_lines m = map Final (final_states m) ++ edge_lines m

-- the text of an automaton under a first line
abbrev pub automaton_text : List ℕ → SystemData → Automaton → List ℕ
automaton_text first s m = text_under first [] s (length m.states) (written_lines m)

-- the text of an automaton
abbrev pub written_text : SystemData → Automaton → List ℕ
written_text s m = automaton_text (codes "armc 1 safe") s m

-- the text of a search that reached its budget when so many states were counted, under a first line
abbrev pub counted_text : List ℕ → ℕ → ℕ → List ℕ
counted_text first counted budget =
    flat_map (λ line. line ++ 10 ∷ [])
    (first ∷ ((codes "counted " ++ decimal counted) ∷ ((codes "budget " ++ decimal budget) ∷ (codes "end" ∷ []))))

abbrev pub unknown_text : ℕ → ℕ → List ℕ
unknown_text counted budget = counted_text (codes "armc 1 unknown") counted budget
