-- What simulations say of the words that states accept, and edges that they make needless.
use Rattle.std.proofs.Common.{◌≡◌, ◌<◌, ◌≤◌, ◌&&◌, ℕ, true, false, not, eqb, eq-eqb, List, [], ◌∷◌, ◌++◌, Option, None, Some, Contains, IsPermutation, length, get_or, refl, subst, ◌∙◌, inl, inr}
use Rattle.std.specs.Option.{option_eq}
use Rattle.std.proofs.lemmas.Bool.{not-false, and_from, and_parts}
use Rattle.std.proofs.lemmas.List.{get_or_default}
use Rattle.std.proofs.lemmas.List.Elements.{Contains-get_or, Contains-append_left, Contains-push, Contains-push_cases}
use Rattle.std.proofs.lemmas.List.Folds.{list_any-from_Any, Any-from_list_any}
use Rattle.std.proofs.lemmas.List.Sorted.{Contains-permutation, IsPermutation-sym}
use Rattle.word_automata.specs.Path.{edges_of}
use Rattle.word_automata.specs.Nondeterministic.{NondeterministicAutomaton}
use Rattle.word_automata.proofs.ForCallers.{Contains-none, same_label}
use Rattle.reduction.specs.Reduction.{AcceptsAlong}
use Rattle.reduction.specs.private.Copies.{KeepsEdges, IsReduced}
use Rattle.reduction.specs.Simulation.{IsBelow, IsMatched, AreMatched, IsSimulatedBy, IsSimulation, accepts_along, AreIncluded}
use Rattle.reduction.specs.private.Pruning.{DropsMatched}
use Rattle.reduction.proofs.Reductions.{up, down}

-- a state simulates itself
pub simulated_by_itself : (n : NondeterministicAutomaton) (pairs : List (ℕ × ℕ)) (p : ℕ) → IsSimulatedBy n pairs p p
simulated_by_itself n pairs p = record {
  accepts = λ accepts. accepts;
  matched = λ edge there. (edge.1, there, inl refl);
}

-- pairs that hold, each by its place
pub simulation_all : (n : NondeterministicAutomaton) (pairs : List (ℕ × ℕ))
    → ((k : ℕ) → k < length pairs → IsSimulatedBy n pairs (get_or pairs k (0, 0)).0 (get_or pairs k (0, 0)).1) → IsSimulation n pairs
simulation_all n pairs each p q (k, within, is) =
    subst (λ (pair : ℕ × ℕ). IsSimulatedBy n pairs pair.0 pair.1) (get_or_default pairs k (0, 0) (p, q) within ∙ is) (each k within)

-- edges that are matched, each by its place
pub matched_all : (pairs : List (ℕ × ℕ)) (edges others : List (Option ℕ × ℕ)) → ((k : ℕ) → k < length edges → IsMatched pairs others (get_or edges k (None, 0)))
    → AreMatched pairs edges others
matched_all pairs edges others each edge (k, within, is) = subst (IsMatched pairs others) (get_or_default edges k (None, 0) edge within ∙ is) (each k within)

-- the edge at the place matches
pub matched_at : (pairs : List (ℕ × ℕ)) (edges : List (Option ℕ × ℕ)) (k : ℕ) (label : Option ℕ) (to : ℕ) → k < length edges
    → not (option_eq eqb (get_or edges k (None, 0)).0 label) ≡ false → IsBelow pairs to (get_or edges k (None, 0)).1 → IsMatched pairs edges (label, to)
matched_at pairs edges k label to within test below =
    let edge = get_or edges k (None, 0) in
    let same : edge.0 ≡ label = same_label edge.0 label (not-false (option_eq eqb edge.0 label) test) in
    (edge.1, subst (λ l. Contains edges (l, edge.1)) same (Contains-get_or edges k (None, 0) within), below)

module _ (n : NondeterministicAutomaton) (pairs : List (ℕ × ℕ)) (simulation : IsSimulation n pairs) where
  -- a state above accepts along the same labels
  above_accepts : (labels : List (Option ℕ)) (p q : ℕ) → IsBelow pairs p q → AcceptsAlong n p labels → AcceptsAlong n q labels
  above_accepts [] p q below along = elim below [
    | inl same ↦ subst (λ x. AcceptsAlong n x []) same along
    | inr pair ↦ (simulation p q pair).accepts along
  ]
  above_accepts (label ∷ labels) p q below along = elim below [
    | inl same ↦ subst (λ x. AcceptsAlong n x (label ∷ labels)) same along
    | inr pair ↦
        let above = (simulation p q pair).matched (label, along.0) along.1 in
        (above.0, above.1, above_accepts labels along.0 above.0 above.2 along.2)
  ]

  -- edges that others match are not needed, after two passes
  pub twice_dropped_keep : (edges first turned second new : List (Option ℕ × ℕ)) → DropsMatched pairs edges first → IsPermutation first turned
      → DropsMatched pairs turned second → IsPermutation second new → KeepsEdges n edges new
  twice_dropped_keep edges first turned second new once turns twice turns_back = record {
    only = λ edge there.
        once.only edge (Contains-permutation turned first edge (IsPermutation-sym first turned turns)
        (twice.only edge (Contains-permutation new second edge (IsPermutation-sym second new turns_back) there)));
    kept = λ label q labels there along.
        let above = once.matched (label, q) there in
        let top = twice.matched (label, above.0) (Contains-permutation first turned (label, above.0) turns above.1) in (
          top.0,
          Contains-permutation second new (label, top.0) turns_back top.1,
          above_accepts labels above.0 top.0 top.2 (above_accepts labels q above.0 above.2 along),
        );
  }

-- the test of a path
same_label_test : (label : Option ℕ) → option_eq eqb label label ≡ true
same_label_test None = refl
same_label_test (Some a) = eq-eqb a a refl

module _ (n : NondeterministicAutomaton) where
  along_tested : (labels : List (Option ℕ)) (p : ℕ) → AcceptsAlong n p labels → accepts_along n p labels ≡ true
  along_tested [] p along = along
  along_tested (label ∷ labels) p along =
      list_any-from_Any (λ (edge : Option ℕ × ℕ). option_eq eqb edge.0 label && accepts_along n edge.1 labels) (edges_of n.states p) (
        along.1.0,
        (label, along.0),
        along.1.1,
        along.1.2,
        and_from (option_eq eqb label label) (accepts_along n along.0 labels) (same_label_test label) (along_tested labels along.0 along.2),
      )

  tested_along : (labels : List (Option ℕ)) (p : ℕ) → accepts_along n p labels ≡ true → AcceptsAlong n p labels
  tested_along [] p tested = tested
  tested_along (label ∷ labels) p tested =
      let some = Any-from_list_any (λ (edge : Option ℕ × ℕ). option_eq eqb edge.0 label && accepts_along n edge.1 labels) (edges_of n.states p) tested in
      let edge = some.1 in
      let parts = and_parts (option_eq eqb edge.0 label) (accepts_along n edge.1 labels) some.4 in (
        edge.1,
        subst (λ l. Contains (edges_of n.states p) (l, edge.1)) (same_label edge.0 label parts.0) (some.0, some.2, some.3),
        tested_along labels edge.1 parts.1,
      )

  pub below_accepts : (pairs : List (ℕ × ℕ)) → AreIncluded n pairs → (p q : ℕ) → IsBelow pairs p q → (labels : List (Option ℕ)) → AcceptsAlong n p labels → AcceptsAlong n q labels
  below_accepts pairs included p q below labels along = elim below [
    | inl same ↦ subst (λ x. AcceptsAlong n x labels) same along
    | inr pair ↦ tested_along labels q (included p q pair labels (along_tested labels p along))
  ]

  pub included_none : (pairs : List (ℕ × ℕ)) → pairs ≡ [] → AreIncluded n pairs
  included_none pairs none p q there = absurd (Contains-none (p, q) (subst (λ (xs : List (ℕ × ℕ)). Contains xs (p, q)) none there))

-- a simulation of an automaton says the same of what is left of it
pub included_reduced : (n m : NondeterministicAutomaton) (next : ℕ) → IsReduced n m next → length n.states ≤ next → (pairs : List (ℕ × ℕ)) → IsSimulation n pairs → AreIncluded m pairs
included_reduced n m next so all pairs simulation p q pair labels tested =
    along_tested m labels q
    (down n m next so all labels q (above_accepts n pairs simulation labels p q (inr pair) (up n m next so all labels p (tested_along m labels p tested))))

-- edges one by one
module _ (pairs : List (ℕ × ℕ)) where
  pub drops_none : DropsMatched pairs [] []
  drops_none = record {
    only = λ edge there. there;
    matched = λ edge there. absurd (Contains-none edge there);
  }

  module _ (edges kept : List (Option ℕ × ℕ)) (edge : Option ℕ × ℕ) (so : DropsMatched pairs edges kept) where
    pub drops_skip : IsMatched pairs kept edge → DropsMatched pairs (edges ++ edge ∷ []) kept
    drops_skip matched = record {
      only = λ e there. Contains-append_left edges (edge ∷ []) e (so.only e there);
      matched = λ e there. elim (Contains-push_cases edges edge e there) [
        | inl earlier ↦ so.matched e earlier
        | inr is ↦ subst (IsMatched pairs kept) is matched
      ];
    }

    pub drops_more : DropsMatched pairs (edges ++ edge ∷ []) (kept ++ edge ∷ [])
    drops_more = record {
      only = λ e there. elim (Contains-push_cases kept edge e there) [
        | inl earlier ↦ Contains-append_left edges (edge ∷ []) e (so.only e earlier)
        | inr is ↦ subst (Contains (edges ++ edge ∷ [])) is (Contains-push edges edge)
      ];
      matched = λ e there. elim (Contains-push_cases edges edge e there) [
        | inl earlier ↦ let m = so.matched e earlier in (m.0, Contains-append_left kept (edge ∷ []) (e.0, m.0) m.1, m.2)
        | inr is ↦ subst (IsMatched pairs (kept ++ edge ∷ [])) is (edge.1, Contains-push kept edge, inl refl)
      ];
    }
