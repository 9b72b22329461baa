-- The text of version 2 that is written of an automaton.
use Rattle.std.specs.Prelude.{◌==◌, ℕ, Bool, false, List, [], ◌∷◌, ◌++◌, Option, None, Some, map, length, get_or, filter, flat_map}
use Rattle.std.specs.List.{list_any, range_with_len}
use Rattle.word_automata.specs.Automaton.{Automaton, target}
use Rattle.protocol_model.specs.System.{SystemData}
use Rattle.certificate.specs.SafeText.{Line, Final, Edges, Two, safe_text}
use Rattle.certificate_writing.specs.Writing.{final_states}

-- whether one of the edges has the letter
abbrev pub has_letter : List (ℕ × ℕ) → ℕ → Bool
has_letter edges a = list_any (λ edge. edge.0 == a) edges

-- whether the letter labels an edge of the automaton
abbrev pub labels_edge : Automaton → ℕ → Bool
labels_edge m a = list_any (λ node. has_letter node.edges a) m.states

-- the letters that label an edge, by increasing number
abbrev pub used_letters : Automaton → List ℕ
used_letters m = filter (labels_edge m) (range_with_len 0 m.letters)

-- whether there is a target and it is this state
abbrev pub leads_to : Option ℕ → ℕ → Bool
leads_to None q = false
leads_to (Some r) q = r == q

-- the indices of the letters that lead from p to q, by increasing number
abbrev pub indices_between : Automaton → List ℕ → ℕ → ℕ → List ℕ
indices_between m letters p q = filter (λ i. leads_to (target m p (get_or letters i 0)) q) (range_with_len 0 (length letters))

-- the line of edges from p to q with these indices, where there is one
abbrev pub line_between : ℕ → ℕ → List ℕ → List Line
line_between p q [] = []
line_between p q (i ∷ indices) = Edges p q (i ∷ indices) ∷ []

-- the lines of the edges that leave p, by target
abbrev pub indexed_edges_from : Automaton → List ℕ → ℕ → List Line
indexed_edges_from m letters p =
    flat_map (λ q. line_between p q (indices_between m letters p q)) (range_with_len 0 (length m.states))

-- the lines of the edges, one for each pair of states with an edge, by source and then by target
abbrev pub indexed_edges : Automaton → List ℕ → List Line
indexed_edges m letters = flat_map (indexed_edges_from m letters) (range_with_len 0 (length m.states))

-- the lines of an automaton: those of its accepting states, and then those of its edges
abbrev pub indexed_lines : Automaton → List ℕ → List Line
indexed_lines m letters = map Final (final_states m) ++ indexed_edges m letters

-- the text of version 2 of an automaton
abbrev pub indexed_text : SystemData → Automaton → List ℕ
indexed_text s m = safe_text (Two (used_letters m)) s (length m.states) (indexed_lines m (used_letters m))
