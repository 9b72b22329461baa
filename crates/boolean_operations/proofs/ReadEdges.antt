-- Edges that are read one by one, and a deterministic automaton read as a nondeterministic one.
use Rattle.std.proofs.Common.{◌≡◌, ◌<◌, ◌≤◌, ℕ, List, Option, Some, length, map, slice_get, sym, ap, subst, ◌∙◌}
use Rattle.std.specs.Option.{option_map}
use Rattle.std.proofs.lemmas.List.{get_or-map, length-map}
use Rattle.std.proofs.lemmas.Option.{slice_get-map}
use Rattle.word_automata.specs.Path.{Node, edges_of, is_accepting}
use Rattle.word_automata.specs.Automaton.{Automaton}
use Rattle.word_automata.specs.Nondeterministic.{as_nondeterministic, lettered_edges}
use Rattle.word_automata.proofs.ForCallers.{edges_of-get_or, is_accepting-get_or, lettered}

-- an edge that is read
pub read_at : {E : Type 0} (move_of : E → Option ℕ × ℕ) (edges : List E) (moves : List (Option ℕ × ℕ)) (k : ℕ) (edge : E) (move : Option ℕ × ℕ)
    → map move_of edges ≡ moves → slice_get edges k ≡ Some edge → move ≡ move_of edge → slice_get moves k ≡ Some move
read_at move_of edges moves k edge move are at is =
    ap (λ (ms : List (Option ℕ × ℕ)). slice_get ms k) (sym are) ∙ slice_get-map move_of edges k ∙ ap (option_map move_of) at
    ∙ ap (λ (m : Option ℕ × ℕ). Some m) (sym is)

-- where all edges are read, all moves are
pub read_all : {E : Type 0} (move_of : E → Option ℕ × ℕ) (edges : List E) (moves : List (Option ℕ × ℕ)) (k : ℕ)
    → map move_of edges ≡ moves → length edges ≤ k → length moves ≤ k
read_all move_of edges moves k are all =
    subst (λ (ms : List (Option ℕ × ℕ)). length ms ≤ k) are (subst (λ (i : ℕ). i ≤ k) (sym (length-map edges move_of)) all)

module _ (m : Automaton) (q : ℕ) (within : q < length (as_nondeterministic m).states) where
  kept_within : q < length m.states
  kept_within = subst (λ (n : ℕ). q < n) (length-map m.states lettered) within

  -- a state accepts
  pub read_accepting : (node : Node ℕ) → is_accepting m.states q ≡ is_accepting (as_nondeterministic m).states q
  read_accepting node =
      is_accepting-get_or m.states q node kept_within
      ∙ ap (λ (n : Node (Option ℕ)). n.accepting) (sym (get_or-map lettered m.states q node (lettered node) kept_within))
      ∙ sym (is_accepting-get_or (as_nondeterministic m).states q (lettered node) within)

  -- and has its edges
  pub read_edges : (node : Node ℕ) → lettered_edges (edges_of m.states q) ≡ edges_of (as_nondeterministic m).states q
  read_edges node =
      ap lettered_edges (edges_of-get_or m.states q node kept_within)
      ∙ ap (λ (n : Node (Option ℕ)). n.edges) (sym (get_or-map lettered m.states q node (lettered node) kept_within))
      ∙ sym (edges_of-get_or (as_nondeterministic m).states q (lettered node) within)
