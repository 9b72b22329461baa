-- Automata without edges without a letter accept the same words.
use Rattle.std.proofs.Common.{◌≡◌, ◌+◌, ◌<◌, ◌≤◌, ◌↔◌, ◌⊎◌, ℕ, zero, suc, Bool, true, false, List, [], ◌∷◌, ◌++◌, Option, None, Some, Contains, All, IsPermutation, IsTrue, length, eqb, refl, sym, ap, subst, ◌∙◌, inl, inr, arith}
use Rattle.std.proofs.lemmas.Bool.{cases_order, true≢false}
use Rattle.std.proofs.lemmas.List.{length-append}
use Rattle.std.proofs.lemmas.List.Elements.{All-contains, Contains-append_left, Contains-push, Contains-push_cases}
use Rattle.std.proofs.lemmas.List.Sorted.{Contains-permutation, IsPermutation-sym}
use Rattle.std.specs.Option.{option_eq}
use Rattle.word_automata.specs.Path.{Node, edges_of, is_accepting, IsPath, spelled, spelled_one}
use Rattle.word_automata.specs.Nondeterministic.{NondeterministicAutomaton, Accepts, IsInRange, IsMoveInRange, empty_nondeterministic, with_nondeterministic_state}
use Rattle.word_automata.specs.StateSets.{AreStates, IsClosure}
use Rattle.word_automata.proofs.ForCallers.{All-from_contains, Contains-cases, Contains-here, Contains-none, IsPath-append, move_within, same_label, spelled-append}
use Rattle.reduction.specs.private.Copies.{with_starts, AddsEdges}
use Rattle.reduction.proofs.Copies.{move_in_range}
use Rattle.reduction.specs.private.SilentMoves.{IsLettered, AddsLettered, AreMovesOf, AcceptsOne, AcceptsSilently, MovesSilently, IsFlagged, IsFreed}

-- the tests of letters
pub no_letter : (letter : Option ℕ) → option_eq eqb letter None ≡ true → letter ≡ None
no_letter letter test = same_label letter None test

pub some_letter : (letter : Option ℕ) → option_eq eqb letter None ≡ false → letter ≡ None → ⊥
some_letter None test none = true≢false test
some_letter (Some a) test none = cc

-- edges one by one
pub lettered_none : (old : List (Option ℕ × ℕ)) → AddsLettered [] old old
lettered_none old = record { kept = λ edge there. there; added = λ edge there lettered. absurd (Contains-none edge there); only = λ edge there. inl there }

module _ (edges old new : List (Option ℕ × ℕ)) (edge : Option ℕ × ℕ) (so : AddsLettered edges old new) where
  pub lettered_skip : edge.0 ≡ None → AddsLettered (edges ++ edge ∷ []) old new
  lettered_skip none = record {
    kept = so.kept;
    added = λ e there lettered. elim (Contains-push_cases edges edge e there) [
      | inl earlier ↦ so.added e earlier lettered
      | inr is ↦ absurd (lettered (subst (λ (x : Option ℕ × ℕ). x.0 ≡ None) is none))
    ];
    only = λ e there. elim (so.only e there) [
      | inl before ↦ inl before
      | inr is ↦ inr (Contains-append_left edges (edge ∷ []) e is.0, is.1)
    ];
  }

  pub lettered_more : IsLettered edge → AddsLettered (edges ++ edge ∷ []) old (new ++ edge ∷ [])
  lettered_more here = record {
    kept = λ e there. Contains-append_left new (edge ∷ []) e (so.kept e there);
    added = λ e there lettered. elim (Contains-push_cases edges edge e there) [
      | inl earlier ↦ Contains-append_left new (edge ∷ []) e (so.added e earlier lettered)
      | inr is ↦ subst (Contains (new ++ edge ∷ [])) is (Contains-push new edge)
    ];
    only = λ e there. elim (Contains-push_cases new edge e there) [
      | inl earlier ↦ elim (so.only e earlier) [
        | inl before ↦ inl before
        | inr is ↦ inr (Contains-append_left edges (edge ∷ []) e is.0, is.1)
      ]
      | inr is ↦ inr (subst (Contains (edges ++ edge ∷ [])) is (Contains-push edges edge), subst IsLettered is here)
    ];
  }

-- states one by one
pub moves_none : (n : NondeterministicAutomaton) → AreMovesOf n [] []
moves_none n = record {
  lettered = λ edge there. absurd (Contains-none edge there);
  from = λ edge there. absurd (Contains-none edge there);
  to = λ q edge there. absurd (Contains-none q there);
}

pub moves_more : (n : NondeterministicAutomaton) (states : List ℕ) (old new : List (Option ℕ × ℕ)) (q : ℕ) → AreMovesOf n states old → AddsLettered (edges_of n.states q) old new
    → AreMovesOf n (states ++ q ∷ []) new
moves_more n states old new q so adds = record {
  lettered = λ edge there. elim (adds.only edge there) [
    | inl before ↦ so.lettered edge before
    | inr is ↦ is.1
  ];
  from = λ edge there. elim (adds.only edge there) [
    | inl before ↦ let f = so.from edge before in (f.0, Contains-append_left states (q ∷ []) f.0 f.1, f.2)
    | inr is ↦ (q, Contains-push states q, is.0)
  ];
  to = λ p edge there moves lettered. elim (Contains-push_cases states q p there) [
    | inl earlier ↦ adds.kept edge (so.to p edge earlier moves lettered)
    | inr is ↦ adds.added edge (subst (λ x. Contains (edges_of n.states x) edge) (sym is) moves) lettered
  ];
}

pub moves_turned : (n : NondeterministicAutomaton) (states : List ℕ) (edges turned : List (Option ℕ × ℕ)) → AreMovesOf n states edges → IsPermutation edges turned → AreMovesOf n states turned
moves_turned n states edges turned so turns =
    let back = λ (edge : Option ℕ × ℕ) (there : Contains turned edge). Contains-permutation turned edges edge (IsPermutation-sym edges turned turns) there in
    record {
      lettered = λ edge there. so.lettered edge (back edge there);
      from = λ edge there. so.from edge (back edge there);
      to = λ q edge there moves lettered. Contains-permutation edges turned edge turns (so.to q edge there moves lettered);
    }

-- they are in range for one of the states
pub moves_in_range : (n : NondeterministicAutomaton) → IsInRange n → (m : NondeterministicAutomaton) → m.letters ≡ n.letters → length m.states ≡ length n.states
    → (p : ℕ) → p < length n.states → (states : List ℕ) → AreStates n states → (edges : List (Option ℕ × ℕ)) → AreMovesOf n states edges
    → All (λ edge. IsMoveInRange m p edge.0 edge.1) edges
moves_in_range n range m letters size p within states are edges so =
    All-from_contains (λ (edge : Option ℕ × ℕ). IsMoveInRange m p edge.0 edge.1) edges (λ edge there.
    let f = so.from edge there in
    let move = move_in_range n range m letters size f.0 (All-contains (λ q. q < length n.states) states f.0 are f.1) edge f.2 in
    record { from_state = omega arith; in_alphabet = move.in_alphabet; to_state = move.to_state })

-- no state yet
pub flagged_none : (n m : NondeterministicAutomaton) (letters : ℕ) → m ≡ empty_nondeterministic letters → letters ≡ n.letters → IsFlagged n m 0
flagged_none n m letters is same = subst (λ x. IsFlagged n x 0) (sym is) (record {
  same_letters = same;
  no_starts = refl;
  count = refl;
  accepts = λ p below. absurd (omega arith);
  alone = λ p. refl;
})

-- one more state at the end
nodes_push : (states : List (Node (Option ℕ))) (flag : Bool) (p : ℕ) → p < length states
    → (is_accepting (states ++ record { accepting = flag; edges = [] } ∷ []) p ≡ is_accepting states p)
nodes_push [] flag p less = absurd (omega arith)
nodes_push (s ∷ states) flag zero less = refl
nodes_push (s ∷ states) flag (suc p) less = nodes_push states flag p (omega arith)

last_flag : (states : List (Node (Option ℕ))) (flag : Bool) → is_accepting (states ++ record { accepting = flag; edges = [] } ∷ []) (length states) ≡ flag
last_flag [] flag = refl
last_flag (s ∷ states) flag = last_flag states flag

no_edges_push : (states : List (Node (Option ℕ))) (flag : Bool) (p : ℕ) → edges_of states p ≡ [] → edges_of (states ++ record { accepting = flag; edges = [] } ∷ []) p ≡ []
no_edges_push [] flag zero none = refl
no_edges_push [] flag (suc p) none = refl
no_edges_push (s ∷ states) flag zero none = none
no_edges_push (s ∷ states) flag (suc p) none = no_edges_push states flag p none

pub flagged_more : (n m : NondeterministicAutomaton) (next : ℕ) (flag : Bool) (reached : List ℕ) → IsFlagged n m next → IsClosure n (next ∷ []) reached → IsTrue flag ↔ AcceptsOne n reached
    → IsFlagged n (with_nondeterministic_state m flag) (next + 1)
flagged_more n m next flag reached so closure accepts = record {
  same_letters = so.same_letters;
  no_starts = so.no_starts;
  count = length-append m.states (record { accepting = flag; edges = [] } ∷ []) ∙ ap (λ k. k + 1) so.count;
  accepts = λ p less. by p (cases_order p next) less;
  alone = λ p. no_edges_push m.states flag p (so.alone p);
}
  where
    by : (p : ℕ) → (p ≡ next) ⊎ ((p < next) ⊎ (next < p)) → p < next + 1 → AcceptsSilently n (with_nondeterministic_state m flag) p
    by p (inl is) less =
        let last : is_accepting (with_nondeterministic_state m flag).states p ≡ flag =
        subst (λ x. is_accepting (with_nondeterministic_state m flag).states x ≡ flag) (so.count ∙ sym is) (last_flag m.states flag) in
        record {
          reached = reached;
          closure = subst (λ x. IsClosure n (x ∷ []) reached) (sym is) closure;
          accepts = subst (λ b. IsTrue b ↔ AcceptsOne n reached) (sym last) accepts;
        }
    by p (inr (inl below)) less =
        let old = so.accepts p below in
        record {
          reached = old.reached;
          closure = old.closure;
          accepts = subst (λ b. IsTrue b ↔ AcceptsOne n old.reached) (sym (nodes_push m.states flag p (let c = so.count in omega arith))) old.accepts;
        }
    by p (inr (inr past)) less = absurd (omega arith)

-- all states, with the start states
pub freed_none : (n m : NondeterministicAutomaton) (next : ℕ) (starts : List ℕ) → IsFlagged n m next → next ≡ length n.states → starts ≡ n.starts → IsFreed n (with_starts m starts) 0
freed_none n m next starts so all is = record {
  same_letters = so.same_letters;
  same_starts = ap (λ xs. xs ++ starts) so.no_starts ∙ is;
  same_size = so.count ∙ all;
  accepts = λ p less.
      let old = so.accepts p (omega arith) in
      record { reached = old.reached; closure = old.closure; accepts = old.accepts };
  done = λ p below. absurd (omega arith);
  later = λ p past. so.alone p;
}

pub freed_more : (n old new : NondeterministicAutomaton) (state : ℕ) (reached : List ℕ) (edges : List (Option ℕ × ℕ)) → IsFreed n old state → IsClosure n (state ∷ []) reached
    → AreMovesOf n reached edges → AddsEdges state edges old new → IsFreed n new (state + 1)
freed_more n old new state reached edges so closure moves adds = record {
  same_letters = adds.same_letters ∙ so.same_letters;
  same_starts = adds.same_starts ∙ so.same_starts;
  same_size = adds.same_size ∙ so.same_size;
  accepts = λ p less.
      let before = so.accepts p less in
      record {
        reached = before.reached;
        closure = before.closure;
        accepts = subst (λ b. IsTrue b ↔ AcceptsOne n before.reached) (sym (adds.same_acceptance p)) before.accepts;
      };
  done = λ p less. by p (cases_order p state) less;
  later = λ p past. adds.edges_else p (λ is. absurd (omega arith)) ∙ so.later p (omega arith);
}
  where
    by : (p : ℕ) → (p ≡ state) ⊎ ((p < state) ⊎ (state < p)) → p < state + 1 → MovesSilently n new p
    by p (inl is) less =
        let here : edges_of new.states p ≡ edges =
        ap (λ x. edges_of new.states x) is ∙ adds.edges_here ∙ ap (λ es. es ++ edges) (so.later state (omega arith)) in
        record {
          reached = reached;
          closure = subst (λ x. IsClosure n (x ∷ []) reached) (sym is) closure;
          moves = subst (AreMovesOf n reached) (sym here) moves;
        }
    by p (inr (inl below)) less =
        let before = so.done p below in
        record {
          reached = before.reached;
          closure = before.closure;
          moves = subst (AreMovesOf n before.reached) (sym (adds.edges_else p (λ is. absurd (omega arith)))) before.moves;
        }
    by p (inr (inr past)) less = absurd (omega arith)

-- a path from the state to an accepting one that spells the word
abbrev pub IsRun : NondeterministicAutomaton → ℕ → List ℕ → Type 0
IsRun k p w = (moves : List (Option ℕ × ℕ)) × (end : ℕ) × IsPath k.states p moves end × IsTrue (is_accepting k.states end) × (spelled (λ l. l) moves ≡ w)

only_one : (p q : ℕ) → Contains (p ∷ []) q → q ≡ p
only_one p q there = by (Contains-cases p [] q there)
  where
    by : (p ≡ q) ⊎ Contains [] q → q ≡ p
    by (inl same) = sym same
    by (inr none) = absurd (Contains-none q none)

module _ (n m : NondeterministicAutomaton) (range : IsInRange n) (next : ℕ) (so : IsFreed n m next) (all : length n.states ≤ next) where
  here : (p : ℕ) → p < length n.states → MovesSilently n m p
  here p within = so.done p (omega arith)

  up : (moves : List (Option ℕ × ℕ)) (p end : ℕ) → p < length n.states → IsPath m.states p moves end → IsTrue (is_accepting m.states end) → IsRun n p (spelled (λ l. l) moves)
  up [] p end within path accepting =
      let at = so.accepts p within in
      let some = at.accepts.0 (subst (λ q. IsTrue (is_accepting m.states q)) (sym path) accepting) in
      let silent = at.closure.reached some.0 some.1 in
      (silent.1, some.0, subst (λ s. IsPath n.states s silent.1 some.0) (only_one p silent.0 silent.2) silent.3, some.2, silent.4)
  up (move ∷ moves) p end within path accepting =
      let at = here p within in
      let some = at.moves.from move path.0 in
      let silent = at.closure.reached some.0 some.1 in
      let first = subst (λ s. IsPath n.states s silent.1 some.0) (only_one p silent.0 silent.2) silent.3 in
      let rest = up moves move.1 end (move_within n range some.0 move.1 move.0 some.2) path.1 accepting in (
        silent.1 ++ move ∷ rest.0,
        rest.1,
        IsPath-append n.states p some.0 rest.1 silent.1 (move ∷ rest.0) first (some.2, rest.2),
        rest.3,
        spelled-append (λ l. l) silent.1 (move ∷ rest.0) ∙ ap (λ v. v ++ (spelled_one move.0 ++ spelled (λ l. l) rest.0)) silent.4 ∙ ap (λ v. spelled_one move.0 ++ v) rest.4,
      )

  down : (moves : List (Option ℕ × ℕ)) (p r end : ℕ) (within : p < length n.states) → Contains (so.accepts p within).reached r → Contains (here p within).reached r
      → IsPath n.states r moves end → IsTrue (is_accepting n.states end) → IsRun m p (spelled (λ l. l) moves)
  down [] p r end within flagged there path accepting =
      ([], p, refl, (so.accepts p within).accepts.1 (r, flagged, subst (λ q. IsTrue (is_accepting n.states q)) (sym path) accepting), refl)
  down ((None, q) ∷ moves) p r end within flagged there path accepting =
      down moves p q end within ((so.accepts p within).closure.closed r q flagged path.0) ((here p within).closure.closed r q there path.0) path.1 accepting
  down ((Some a, q) ∷ moves) p r end within flagged there path accepting =
      let edge = (here p within).moves.to r (Some a, q) there path.0 (λ (e : Some a ≡ None). cc) in
      let on = move_within n range r q (Some a) path.0 in
      let rest = down moves q q end on ((so.accepts q on).closure.kept q (Contains-here [] q)) ((here q on).closure.kept q (Contains-here [] q)) path.1 accepting in
      ((Some a, q) ∷ rest.0, rest.1, (edge, rest.2), rest.3, ap (λ v. a ∷ v) rest.4)

  pub freed_accepts : (w : List ℕ) → Accepts m w ↔ Accepts n w
  freed_accepts w = (
    λ run.
        let there = subst (λ (xs : List ℕ). Contains xs run.0) so.same_starts run.3 in
        let within = All-contains (λ s. s < length n.states) n.starts run.0 range.starts_in_range there in
        let path = up run.1 run.0 run.2 within run.4 run.5 in
        (run.0, path.0, path.1, there, path.2, path.3, path.4 ∙ run.6),
    λ run.
        let within = All-contains (λ s. s < length n.states) n.starts run.0 range.starts_in_range run.3 in
        let first = (so.accepts run.0 within).closure.kept run.0 (Contains-here [] run.0) in
        let second = (here run.0 within).closure.kept run.0 (Contains-here [] run.0) in
        let path = down run.1 run.0 run.0 run.2 within first second run.4 run.5 in
        (run.0, path.0, path.1, subst (λ (xs : List ℕ). Contains xs run.0) (sym so.same_starts) run.3, path.2, path.3, path.4 ∙ run.6),
  )
