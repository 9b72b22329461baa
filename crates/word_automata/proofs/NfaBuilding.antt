-- An edge that is added to a nondeterministic automaton keeps it in range, and is told by what the automaton shows.
use Rattle.std.proofs.Common.{◌≡◌, ℕ, ◌<◌, Option, Result, Ok, Err, OnOk, OnErr, List, [], ◌∷◌, ◌++◌, length, get_or, set, All, IfSome, refl, sym, ap, subst, ◌∙◌, arith}
use Rattle.std.proofs.lemmas.List.{length-set}
use Rattle.std.proofs.lemmas.List.Elements.{All-set, All-push, All-get_or}
use Rattle.std.proofs.lemmas.Bool.Decides.{nat_tests}
use Rattle.word_automata.specs.Path.{Node, edges_of, is_accepting}
use Rattle.word_automata.specs.Nondeterministic.{NondeterministicAutomaton, IsInRange, IsMoveInRange, AddsMove}
use Rattle.word_automata.specs.private.CompressedRows.{AppendsEdge}
use Rattle.word_automata.proofs.Rows.{edges_of-set, is_accepting-set, edges_of-get_or, is_accepting-get_or}

-- the automaton with these states
abbrev with_states : NondeterministicAutomaton → List (Node (Option ℕ)) → NondeterministicAutomaton
with_states n states = record { letters = n.letters; starts = n.starts; states = states }

module _ (n : NondeterministicAutomaton) (from : ℕ) (letter : Option ℕ) (to : ℕ) (range : IsMoveInRange n from letter to) where
  module _ (node : Node (Option ℕ)) (read : node ≡ get_or n.states from node) where
    abbrev longer : Node (Option ℕ)
    longer = record { accepting = node.accepting; edges = node.edges ++ (letter, to) ∷ [] }

    edges_here : edges_of n.states from ≡ node.edges
    edges_here = edges_of-get_or n.states from node range.from_state ∙ ap (λ (q : Node (Option ℕ)). q.edges) (sym read)

    accepting_here : is_accepting n.states from ≡ node.accepting
    accepting_here = is_accepting-get_or n.states from node range.from_state ∙ ap (λ (q : Node (Option ℕ)). q.accepting) (sym read)

    adds_longer : AddsMove n (with_states n (set n.states from longer)) from letter to
    adds_longer = record {
      same_letters = refl;
      same_starts = refl;
      same_size = length-set n.states from longer;
      same_acceptance = λ q. grind (arith, nat_tests, is_accepting-set n.states from longer range.from_state q, accepting_here);
      edges = λ q. rw (edges_of-set n.states from longer range.from_state q) (grind (arith, nat_tests, edges_here));
    }

    in_range_longer : IsInRange n → IsInRange (with_states n (set n.states from longer))
    in_range_longer kept = record {
      starts_in_range = subst (λ k. All (λ start. start < k) n.starts) (sym (length-set n.states from longer)) kept.starts_in_range;
      letters_in_range =
          All-set (λ q. All (λ edge. IfSome edge.0 (λ a. a < n.letters)) q.edges) n.states from longer
          (All-push (λ edge. IfSome edge.0 (λ a. a < n.letters)) node.edges (letter, to)
          (rw read (All-get_or (λ q. All (λ edge. IfSome edge.0 (λ a. a < n.letters)) q.edges) n.states from node range.from_state kept.letters_in_range)) range.in_alphabet)
          kept.letters_in_range;
      targets_in_range =
          subst (λ k. All (λ q. All (λ edge. edge.1 < k) q.edges) (set n.states from longer)) (sym (length-set n.states from longer))
          (All-set (λ q. All (λ edge. edge.1 < length n.states) q.edges) n.states from longer
          (All-push (λ edge. edge.1 < length n.states) node.edges (letter, to)
          (rw read (All-get_or (λ q. All (λ edge. edge.1 < length n.states) q.edges) n.states from node range.from_state kept.targets_in_range)) range.to_state)
          kept.targets_in_range);
    }

  module _ (new : List (Node (Option ℕ))) where
    -- an edge that is appended is told as one that is added
    pub adds_move : AppendsEdge n.states new from (letter, to) → AddsMove n (with_states n new) from letter to
    adds_move (node, read, changed) = subst (λ states. AddsMove n (with_states n states) from letter to) (sym changed) (adds_longer node read)

    -- and keeps all in range, as does one that is not appended
    pub in_range_after : {E : Type 0} (r : Result (Unit {0}) E) → IsInRange n → OnOk r (AppendsEdge n.states new from (letter, to)) → OnErr r (new ≡ n.states)
        → IsInRange (with_states n new)
    in_range_after (Ok done) kept (node, read, changed) err = subst (λ states. IsInRange (with_states n states)) (sym changed) (in_range_longer node read kept)
    in_range_after (Err fault) kept ok same = subst (λ states. IsInRange (with_states n states)) (sym same) kept
