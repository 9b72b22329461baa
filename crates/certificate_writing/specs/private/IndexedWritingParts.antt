-- The parts of the text of version 2 as they are written.
use Rattle.std.specs.Prelude.{◌≡◌, ◌==◌, ◌<◌, ℕ, Bool, List, [], ◌∷◌, ◌++◌, Option, None, Some, map, length, get_or, filter, flat_map}
use Rattle.std.specs.Prelude.{codes, decimal, if◌then◌else◌}
use Rattle.std.specs.List.{range_with_len, join_by}
use Rattle.std.specs.List.Sorted.{IsPermutation, IsNonDecreasingBy}
use Rattle.word_automata.specs.Path.{edges_of}
use Rattle.word_automata.specs.Automaton.{Automaton}

-- for each of these letters its index among them
pub record AreIndicesOf (letters : List ℕ) (count : ℕ) (indices : List ℕ) : Type 0 where
  pub long : length indices ≡ count
  pub at : (i : ℕ) → i < length letters → get_or indices (get_or letters i 0) 0 ≡ i

-- whether the edge has this target
abbrev pub has_target : ℕ → ℕ × ℕ → Bool
has_target q edge = edge.1 == q

-- the edges by target, and those to one state in the order that they had
pub record AreByTarget (edges sorted : List (ℕ × ℕ)) : Type 0 where
  pub permutation : IsPermutation edges sorted
  pub in_order : IsNonDecreasingBy (λ edge. edge.1) sorted
  pub stable : (q : ℕ) → filter (has_target q) sorted ≡ filter (has_target q) edges

-- the start of the line of the edges from p to q
abbrev pub line_start : ℕ → ℕ → List ℕ
line_start p q = codes "edge " ++ decimal p ++ codes " " ++ decimal q

-- what stands before the index of an edge from p to q; the last line has edges to the state `line`, if one was begun
abbrev pub before_index : ℕ → Option ℕ → ℕ → List ℕ
before_index p None q = line_start p q
before_index p (Some r) q = if r == q then [] else 10 ∷ line_start p q

-- the end of the last line, if one was begun
abbrev pub line_end : Option ℕ → List ℕ
line_end None = []
line_end (Some q) = 10 ∷ []

-- the text of the edges from p, which are by target, and of the end of the last line
abbrev pub sorted_text : List ℕ → ℕ → Option ℕ → List (ℕ × ℕ) → List ℕ
sorted_text indices p line [] = line_end line
sorted_text indices p line (edge ∷ edges) =
    (before_index p line edge.1 ++ codes " " ++ decimal (get_or indices edge.0 0)) ++ sorted_text indices p (Some edge.1) edges

-- the text of the line of edges from p to q with these indices, where there is one
abbrev pub text_between : ℕ → ℕ → List ℕ → List ℕ
text_between p q [] = []
text_between p q (i ∷ indices) = line_start p q ++ codes " " ++ join_by decimal (codes " ") (i ∷ indices) ++ 10 ∷ []

-- the indices of these edges
abbrev pub indices_on : List ℕ → List (ℕ × ℕ) → List ℕ
indices_on indices edges = map (λ edge. get_or indices edge.0 0) edges

-- the text of the lines of the edges from p
abbrev pub text_from : List ℕ → Automaton → ℕ → List ℕ
text_from indices m p =
    flat_map (λ q. text_between p q (indices_on indices (filter (has_target q) (edges_of m.states p)))) (range_with_len 0 (length m.states))
