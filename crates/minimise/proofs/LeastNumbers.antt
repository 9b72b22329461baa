-- Least states that are found breadth first: their places, their numbers, and the edges of each.
use Rattle.std.proofs.Common.{◌≡◌, ◌<◌, ◌≤◌, ◌+◌, ◌↔◌, ◌⊎◌, ℕ, suc, Bool, true, false, List, [], ◌∷◌, ◌++◌, Option, None, Some, length, take, drop, set, get_or, slice_index, slice_get, IsTrue, refl, sym, ap, subst, ◌∙◌, inl, inr, add-one, arith, true≢false}
use Rattle.std.proofs.lemmas.Bool.{cases_eq}
use Rattle.std.proofs.lemmas.List.{drop_more, drop_all, get_or-set_same, get_or-set_other}
use Rattle.std.specs.List.{filter_map, cons_option}
use Rattle.std.specs.Option.{option_map}
use Rattle.word_automata.specs.Path.{edges_of}
use Rattle.word_automata.specs.Automaton.{Automaton, accepts, accepts_from, target, IsValid}
use Rattle.word_automata.specs.Building.{empty_automaton, AddsEdge, IsEdgeInRange}
use Rattle.exploration.specs.DeterministicSystem.{DeterministicSystem, accepts_by, accepts_by_from, IsSuccessors}
use Rattle.exploration.specs.Residuals.{StartsWith, AreResiduals}
use Rattle.exploration.specs.private.Worklist.{Expands}
use Rattle.exploration.proofs.ForCallers.{begun_numbered, begun_without, edge_in_range, expanded, expanded_all, none_after, none_later}
use Rattle.exploration.proofs.ForCallers.{finished_breadth_first, finished_language, finished_states}
use Rattle.exploration.proofs.ForCallers.{slice_get-append, slice_get-push, slice_get-push_cases}
use Rattle.exploration.specs.Numbering.{IsBreadthFirst, StandsFor}
use Rattle.minimise.specs.Refinement.{least_state, HasLeastStates, quotient, IsLeastState}
use Rattle.minimise.specs.private.BreadthFirst.{ArePlaces, NumbersLeast, AreExplored}
use Rattle.minimise.proofs.LeastStates.{least_edge, least_state-is, least_successors, least_edge_more, no_edge_more}

module _ (found numbers : List ℕ) (places : ArePlaces found numbers) (state : ℕ) (free : slice_index numbers state ≡ 0) where
  -- a state without a place was not found
  pub not_found : (k : ℕ) → slice_get found k ≡ Some state → ⊥
  not_found k h = let own = places.numbered k state h in absurd (omega arith)

  -- the next state gets the next place
  places_more : state < length numbers → ArePlaces (found ++ state ∷ []) (set numbers state (length found + 1))
  places_more within = record {
    placed = placed;
    numbered = λ k r h. numbered k r (slice_get-push_cases found state r k h);
  }
    where
      here : slice_index (set numbers state (length found + 1)) state ≡ length found + 1
      here = get_or-set_same numbers state (length found + 1) 0 within

      placed : (r k : ℕ) → slice_index (set numbers state (length found + 1)) r ≡ suc k → slice_get (found ++ state ∷ []) k ≡ Some r
      placed r k h = elim (cases_eq r state) [
        | inl same ↦
            let at : slice_index (set numbers state (length found + 1)) state ≡ suc k = subst (λ x. slice_index (set numbers state (length found + 1)) x ≡ suc k) same h in
            let last : k ≡ length found = (let x = here in omega arith) in
            subst (λ x. slice_get (found ++ state ∷ []) k ≡ Some x) (sym same) (subst (λ x. slice_get (found ++ state ∷ []) x ≡ Some state) (sym last) (slice_get-push found state))
        | inr ne ↦ slice_get-append found (state ∷ []) k r (places.placed r k (sym (get_or-set_other numbers state r (length found + 1) 0 ne) ∙ h))
      ]

      numbered : (k r : ℕ) → (slice_get found k ≡ Some r) ⊎ ((k ≡ length found) × (state ≡ r)) → slice_index (set numbers state (length found + 1)) r ≡ suc k
      numbered k r (inl there) =
          get_or-set_other numbers state r (length found + 1) 0 (λ same. not_found k (subst (λ x. slice_get found k ≡ Some x) same there))
          ∙ places.numbered k r there
      numbered k r (inr last) =
          subst (λ x. slice_index (set numbers state (length found + 1)) x ≡ suc k) last.1 (here ∙ (let e = last.0 in omega arith))

  pub places_added : (new : List ℕ) (number : ℕ) → state < length numbers → number ≡ length found → new ≡ found ++ state ∷ []
      → ArePlaces new (set numbers state (number + 1))
  places_added new number within e f =
      subst (λ ks. ArePlaces ks (set numbers state (number + 1))) (sym f)
      (subst (λ k. ArePlaces (found ++ state ∷ []) (set numbers state (k + 1))) (sym e) (places_more within))

-- what a deterministic system accepts starts with its start state
starts : (t : DeterministicSystem ℕ) (o : Option ℕ) → t.start ≡ o → StartsWith (λ w. IsTrue (accepts_by t w)) (λ s w. IsTrue (accepts_by_from t s w)) o
starts t None e = λ w h. true≢false (sym h ∙ ap (λ o. elim o as (λ o. Bool) [ None ↦ false | Some s ↦ accepts_by_from t s w ]) e)
starts t (Some s) e = λ w.
    let same = ap (λ o. elim o as (λ o. Bool) [ None ↦ false | Some s ↦ accepts_by_from t s w ]) e in (λ h. sym same ∙ h, λ h. same ∙ h)

-- successors have the languages of the rests of words
residuals : (t : DeterministicSystem ℕ) (P : ℕ → Type 0) (s : ℕ) (pairs : List (ℕ × ℕ)) → IsSuccessors t P s pairs
    → AreResiduals t.letters (λ s w. IsTrue (accepts_by_from t s w)) P s pairs
residuals t P s pairs are = record {
  increasing = are.increasing;
  letters_in_range = are.letters_in_range;
  states = are.states;
  goes_on = λ a r e w.
      let same = ap (λ o. elim o as (λ o. Bool) [ None ↦ false | Some r ↦ accepts_by_from t r w ]) (sym (are.steps a) ∙ e) in (λ h. sym same ∙ h, λ h. same ∙ h);
  stops = λ a e w h. true≢false (sym h ∙ ap (λ o. elim o as (λ o. Bool) [ None ↦ false | Some r ↦ accepts_by_from t r w ]) (sym (are.steps a) ∙ e));
}

-- the edges from the i-th on, of which that one leads to the class
rest_with : (classes : List ℕ) (edges : List (ℕ × ℕ)) (i : ℕ) → i < length edges → (o : Option ℕ) → least_state (slice_index classes (get_or edges i (0, 0)).1) ≡ o
    → filter_map (least_edge classes) (drop i edges) ≡ cons_option (option_map (λ r. ((get_or edges i (0, 0)).0, r)) o) (filter_map (least_edge classes) (drop (i + 1) edges))
rest_with classes edges i l o e =
    ap (filter_map (least_edge classes)) (drop_more edges i (0, 0) l)
    ∙ ap (λ o. cons_option (option_map (λ r. ((get_or edges i (0, 0)).0, r)) o) (filter_map (least_edge classes) (drop (i + 1) edges))) e

-- some edges of a least state that was found are gone through, and others are left
abbrev AreGone : Automaton → List ℕ → List ℕ → Automaton → ℕ → List (ℕ × ℕ) → List (ℕ × ℕ) → Type 0
AreGone m classes = Expands m.letters (λ w. IsTrue (accepts_by (quotient m classes) w)) (λ s w. IsTrue (accepts_by_from (quotient m classes) s w)) (IsLeastState m classes)

-- its first i edges are
abbrev pub AreFollowed : Automaton → List ℕ → List ℕ → Automaton → ℕ → List (ℕ × ℕ) → ℕ → Type 0
AreFollowed m classes found built from edges i = AreGone m classes found built from (filter_map (least_edge classes) (take i edges)) (filter_map (least_edge classes) (drop i edges))

-- what holds of the edge that leads to a class, once the least state of the class has a number
pub record IsNext (m : Automaton) (classes new : List ℕ) (after : Automaton) (from : ℕ) (edges : List (ℕ × ℕ)) (i number : ℕ) : Type 0 where
  pub in_range : IsEdgeInRange after from (get_or edges i (0, 0)).0 number
  pub absent : target after from (get_or edges i (0, 0)).0 ≡ None
  pub last : (q a : ℕ) → from < q → target after q a ≡ None
  pub followed : (more : Automaton) → AddsEdge after more from (get_or edges i (0, 0)).0 number → AreFollowed m classes new more from edges (i + 1)

module _ (m : Automaton) (classes : List ℕ) (count : length classes ≡ length m.states) (least : HasLeastStates classes) (valid : IsValid m) where
  -- the least state of a class is there
  pub least_there : (q r : ℕ) → slice_index classes q ≡ suc r → IsLeastState m classes r
  least_there q r e = least_state-is m classes count least valid q r (ap least_state e)

  -- without a class of state 0 there is nothing
  pub nothing_begun : (found : List ℕ) (built : Automaton) → slice_index classes 0 ≡ 0 → found ≡ [] → built ≡ empty_automaton m.letters
      → AreExplored m classes found built 0 []
  nothing_begun found built e f g =
      subst (λ ks. AreExplored m classes ks built 0 []) (sym f)
      (subst (λ x. AreExplored m classes [] x 0 []) (sym g)
      (begun_without _ _ _ _ (starts (quotient m classes) None (ap least_state e))))

  -- with it the first number is given
  pub first_begun : (r number : ℕ) (old new : List ℕ) (before after : Automaton) → slice_index classes 0 ≡ suc r → old ≡ [] → before ≡ empty_automaton m.letters
      → NumbersLeast m classes old new before after r number → AreExplored m classes new after 0 []
  first_begun r number old new before after e f g numbers =
      begun_numbered _ _ _ _ old new before after r number f g (starts (quotient m classes) (Some r) (ap least_state e)) (least_there 0 r e) numbers

  pub none_followed : (found : List ℕ) (built : Automaton) (from state : ℕ) (edges : List (ℕ × ℕ)) → slice_get found from ≡ Some state
      → edges ≡ edges_of m.states state → AreExplored m classes found built from [] → AreFollowed m classes found built from edges 0
  none_followed found built from state edges at e explored = record {
    state = state;
    at = at;
    explored = explored;
    residuals = subst (λ es. AreResiduals m.letters (λ s w. IsTrue (accepts_by_from (quotient m classes) s w)) (IsLeastState m classes) state (filter_map (least_edge classes) es)) (sym e)
        (residuals (quotient m classes) (IsLeastState m classes) state (filter_map (least_edge classes) (edges_of m.states state))
        (least_successors m classes count least valid state));
  }

  pub all_followed : (found : List ℕ) (built : Automaton) (from : ℕ) (edges : List (ℕ × ℕ)) (i : ℕ) → length edges ≤ i → AreFollowed m classes found built from edges i
      → AreExplored m classes found built (from + 1) []
  all_followed found built from edges i l followed =
      let gone = filter_map (least_edge classes) (take i edges) in
      subst (λ n. AreExplored m classes found built n []) (sym (add-one from))
      (expanded_all _ _ _ _ found built from gone (subst (λ xs. AreGone m classes found built from gone (filter_map (least_edge classes) xs)) (drop_all i edges l) followed))

  module _ (found : List ℕ) (built : Automaton) (from : ℕ) (edges : List (ℕ × ℕ)) (i : ℕ) (l : i < length edges) (followed : AreFollowed m classes found built from edges i) where
    abbrev gone : List (ℕ × ℕ)
    gone = filter_map (least_edge classes) (take i edges)

    abbrev left : List (ℕ × ℕ)
    left = filter_map (least_edge classes) (drop (i + 1) edges)

    -- an edge to class 0 is none
    pub dead_followed : slice_index classes (get_or edges i (0, 0)).1 ≡ 0 → AreFollowed m classes found built from edges (i + 1)
    dead_followed e =
        subst (λ xs. AreGone m classes found built from xs left) (no_edge_more classes edges i l gone refl (sym (ap least_state e)))
        (subst (AreGone m classes found built from gone) (rest_with classes edges i l None (ap least_state e)) followed)

    pub edge_next : (r number : ℕ) (new : List ℕ) (after : Automaton) → slice_index classes (get_or edges i (0, 0)).1 ≡ suc r
        → NumbersLeast m classes found new built after r number → IsNext m classes new after from edges i number
    edge_next r number new after e numbers =
        let letter = (get_or edges i (0, 0)).0 in
        let at_edge : AreGone m classes found built from gone ((letter, r) ∷ left) =
        subst (AreGone m classes found built from gone) (rest_with classes edges i l (Some r) (ap least_state e)) followed in
        record {
          in_range = edge_in_range _ _ _ _ found built from gone left letter r at_edge new after number numbers;
          absent = none_after _ _ _ _ found built from gone left letter r at_edge new after number numbers;
          last = none_later _ _ _ _ found built from gone left letter r at_edge new after number numbers;
          followed = λ more adds. subst (λ xs. AreGone m classes new more from xs left) (least_edge_more classes edges i l gone refl r (sym (ap least_state e)))
              (expanded _ _ _ _ found built from gone left letter r at_edge new after number numbers more adds);
        }

same_truth : (a b : Bool) → (IsTrue a ↔ IsTrue b) → a ≡ b
same_truth true b h = sym (h.0 refl)
same_truth false true h = h.1 refl
same_truth false false h = refl

-- when every least state that was found has its edges
module _ {m : Automaton} {classes found : List ℕ} {built : Automaton} {next : ℕ} (explored : AreExplored m classes found built next []) (all : length found ≤ next) where
  pub built_language : (w : List ℕ) → accepts built w ≡ accepts_by (quotient m classes) w
  built_language w = same_truth (accepts built w) (accepts_by (quotient m classes) w) (finished_language _ _ _ _ found built next explored all w)

  pub built_breadth_first : IsBreadthFirst built
  built_breadth_first = finished_breadth_first _ _ _ _ found built next explored all

  pub built_states : StandsFor (quotient m classes) (IsLeastState m classes) built
  built_states =
      let stands = finished_states _ _ _ _ found built next explored all in
      record {
        found = stands.found;
        count = stands.count;
        states = stands.states;
        distinct = stands.distinct;
        language = λ q s h w. same_truth (accepts_from built q w) (accepts_by_from (quotient m classes) s w) (stands.accepted q s h w);
      }
