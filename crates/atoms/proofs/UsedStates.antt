-- The states that are used, and the sources of edges.
use Rattle.std.proofs.Common.{◌≡◌, ◌<◌, ◌≤◌, ◌+◌, ◌++◌, ◌∷◌, [], ℕ, false, List, Option, Contains, length, get_or, subst, inl, inr, refl, sym, ◌∙◌, arith}
use Rattle.std.proofs.lemmas.Bool.{cases_eq, false≢true}
use Rattle.std.proofs.lemmas.List.{get_or_past}
use Rattle.std.proofs.lemmas.List.Elements.{All-nil, All-push, Contains-append_left, Contains-push}
use Rattle.word_automata.specs.Path.{edges_of, is_accepting}
use Rattle.word_automata.specs.Nondeterministic.{NondeterministicAutomaton}
use Rattle.word_automata.proofs.ForCallers.{Contains-none}
use Rattle.bit_set.specs.SetLists.{HasAt, HasRoom, AddsNumbers}
use Rattle.bit_set.proofs.ForCallers.{adds_none, adds_same}
use Rattle.atoms.specs.private.Places.{IsUsed, AreUsedBelow, IsSource}

module _ (n : NondeterministicAutomaton) where
  pub used_none : AreUsedBelow n 0 []
  used_none = record { states = All-nil (λ q. q < length n.states); complete = λ q l is. absurd (omega arith) }

  pub used_skip : (state : ℕ) (used : List ℕ) → (IsUsed n state → ⊥) → AreUsedBelow n state used → AreUsedBelow n (state + 1) used
  used_skip state used unused before = record {
    states = before.states;
    complete = λ q l is. elim (cases_eq q state) [
      | inl here ↦ absurd (unused (subst (IsUsed n) here is))
      | inr other ↦ before.complete q (omega arith) is
    ];
  }

  pub used_more : (state : ℕ) (used : List ℕ) → state < length n.states → AreUsedBelow n state used → AreUsedBelow n (state + 1) (used ++ state ∷ [])
  used_more state used within before = record {
    states = All-push (λ q. q < length n.states) used state before.states within;
    complete = λ q l is. elim (cases_eq q state) [
      | inl here ↦ subst (Contains (used ++ state ∷ [])) (sym here) (Contains-push used state)
      | inr other ↦ Contains-append_left used (state ∷ []) q (before.complete q (omega arith) is)
    ];
  }

  -- a state that does not accept, and whose list of edges is empty, is not used
  pub unused : (state : ℕ) (edges : List (Option ℕ × ℕ)) → is_accepting n.states state ≡ false → edges ≡ edges_of n.states state → length edges ≡ 0 → IsUsed n state → ⊥
  unused state edges rejects are none (inl accepts) = false≢true (sym rejects ∙ accepts)
  unused state edges rejects are none (inr some) =
      let there = subst (λ (xs : List (Option ℕ × ℕ)). Contains xs some.0) (sym are) some.1 in let l = there.1 in omega arith

module _ (into : List (List (ℕ × ℕ))) (used : List ℕ) (place : ℕ) (sets : List (List ℕ)) where
  -- a number past the places, or past the lists, has no sources
  pub no_place : length used ≤ place → AddsNumbers (IsSource into used place) sets sets
  no_place past = adds_none HasAt HasRoom (IsSource into used place) sets (λ a j is. let l = is.0 in omega arith)

  pub no_list : (state : ℕ) → state ≡ get_or used place 0 → length into ≤ state → AddsNumbers (IsSource into used place) sets sets
  no_list state is past =
      adds_none HasAt HasRoom (IsSource into used place) sets
      (λ a j source. Contains-none (a, j) (subst (λ xs. Contains xs (a, j)) (get_or_past into (get_or used place 0) [] (subst (λ q. length into ≤ q) is past)) source.1))

  -- and else those of its list
  pub sources_added : (new : List (List ℕ)) (edges : List (ℕ × ℕ)) → place < length used → edges ≡ get_or into (get_or used place 0) []
      → AddsNumbers (λ a j. Contains edges (a, j)) sets new → AddsNumbers (IsSource into used place) sets new
  sources_added new edges within are adds =
      adds_same HasAt HasRoom (λ a j. Contains edges (a, j)) (IsSource into used place) sets new
      (λ a j source. subst (λ xs. Contains xs (a, j)) (sym are) source.1)
      (λ a j there. (within, subst (λ xs. Contains xs (a, j)) are there)) adds

-- numbers of edges
pub of_edges : (edges : List (ℕ × ℕ)) (old new : List (List ℕ))
    → AddsNumbers (λ a j. (edge : ℕ × ℕ) × Contains edges edge × ((a ≡ edge.0) × (j ≡ edge.1))) old new → AddsNumbers (λ a j. Contains edges (a, j)) old new
of_edges edges old new adds =
    adds_same HasAt HasRoom (λ a j. (edge : ℕ × ℕ) × Contains edges edge × ((a ≡ edge.0) × (j ≡ edge.1))) (λ a j. Contains edges (a, j)) old new
    (λ a j there. ((a, j), there, (refl, refl)))
    (λ a j some. subst (λ x. Contains edges (x, j)) (sym some.2.0) (subst (λ y. Contains edges (some.0.0, y)) (sym some.2.1) some.1)) adds
