-- The automaton of the states from which words are accepted, numbered by their places in a list, accepts the same words.
use Rattle.std.proofs.Common.{◌≡◌, ◌+◌, ◌<◌, ◌↔◌, ℕ, zero, suc, Bool, true, false, List, [], ◌∷◌, ◌++◌, Option, Contains, IfSome, IsPermutation, IsTrue, length, take, get_or, set, map, refl, sym, ap, subst, ◌∙◌, inl, inr, arith}
use Rattle.std.proofs.lemmas.Bool.{cases_eq, true≢false}
use Rattle.std.proofs.lemmas.List.{get_or-set_same, get_or-set_other, length-map, length-set, map-append, take_more}
use Rattle.std.proofs.lemmas.List.Elements.{All-contains, All-nil, All-push, Contains-append_left, Contains-push, Contains-push_cases}
use Rattle.std.proofs.lemmas.List.Sorted.{Contains-permutation, IsPermutation-sym}
use Rattle.word_automata.specs.Path.{Node, edges_of, is_accepting}
use Rattle.word_automata.specs.Nondeterministic.{NondeterministicAutomaton, Accepts, IsInRange, IsMoveInRange, with_nondeterministic_state, with_start, AddsMove}
use Rattle.word_automata.proofs.ForCallers.{All-from_contains, All-edges_of, Contains-none}
use Rattle.reduction.specs.Reduction.{AcceptsAlong}
use Rattle.reduction.specs.private.Emptiness.{AreRejecting}
use Rattle.reduction.specs.private.Renumbering.{IsPlaceOf, HavePlaces, HasPlaces, AddsPlacedStarts, HasPlacedEdges, HasLetters, AddsPlaced, IsPartBelow, IsPart, states_of, AreUnflaggedBelow, AreUnflagged}
use Rattle.reduction.proofs.Copies.{adds_edges_none, adds_edges_more, edges_within}
use Rattle.reduction.proofs.Reductions.{any_accepts}
use Rattle.reduction.proofs.Rejection.{is_live}

-- states that have no flag, one by one
pub unflagged_none : (flags : List Bool) → AreUnflaggedBelow flags 0 []
unflagged_none flags = record { within = All-nil (λ q. q < length flags); complete = λ q below is. absurd (omega arith) }

module _ (flags : List Bool) (state : ℕ) (states : List ℕ) (so : AreUnflaggedBelow flags state states) where
  pub unflagged_skip : get_or flags state false ≡ true → AreUnflaggedBelow flags (state + 1) states
  unflagged_skip flag = record {
    within = so.within;
    complete = λ q below is. elim (cases_eq q state) [
      | inl here ↦ absurd (true≢false (sym flag ∙ subst (λ p. get_or flags p false ≡ false) here is))
      | inr other ↦ so.complete q (omega arith) is
    ];
  }

  pub unflagged_more : state < length flags → AreUnflaggedBelow flags (state + 1) (states ++ state ∷ [])
  unflagged_more there = record {
    within = All-push (λ q. q < length flags) states state so.within there;
    complete = λ q below is. elim (cases_eq q state) [
      | inl here ↦ subst (Contains (states ++ state ∷ [])) (sym here) (Contains-push states state)
      | inr other ↦ Contains-append_left states (state ∷ []) q (so.complete q (omega arith) is)
    ];
  }

-- places one by one
pub places_none : (states places : List ℕ) → HavePlaces [] states places
places_none states places q there = absurd (Contains-none q there)

pub places_more : (states places : List ℕ) (place : ℕ) → place < length states → get_or states place 0 < length places → HavePlaces (take place states) states places
    → HavePlaces (take (place + 1) states) states (set places (get_or states place 0) place)
places_more states places place within room so q there =
    let state = get_or states place 0 in
    let new = set places state place in
    let size : length new ≡ length places = length-set places state place in
    elim (cases_eq q state) [
      | inl here ↦
          let at : get_or new q 0 ≡ place = ap (λ p. get_or new p 0) here ∙ get_or-set_same places state place 0 room in
          (omega arith, (omega arith, ap (λ k. get_or states k 0) at ∙ sym here))
      | inr other ↦
          let before = so q (elim (Contains-push_cases (take place states) state q (subst (λ (xs : List ℕ). Contains xs q) (take_more states place 0 within) there)) [
            | inl earlier ↦ earlier
            | inr is ↦ absurd (other (sym is))
          ]) in
          let at : get_or new q 0 ≡ get_or places q 0 = get_or-set_other places state q place 0 other in
          let l = before.0 in
          (omega arith, subst (λ k. IsPlaceOf states k q) (sym at) before.1)
    ]

-- numbers one by one
module _ (states : List ℕ) where
  pub has_places_none : HasPlaces states [] []
  has_places_none = record { only = λ place there. absurd (Contains-none place there); kept = λ q there listed. absurd (Contains-none q there) }

  module _ (old new : List ℕ) (q : ℕ) (so : HasPlaces states old new) where
    pub has_places_skip : (Contains states q → ⊥) → HasPlaces states (old ++ q ∷ []) new
    has_places_skip not_listed = record {
      only = λ place there. let before = so.only place there in (before.0, Contains-append_left old (q ∷ []) (get_or states place 0) before.1);
      kept = λ p there listed. elim (Contains-push_cases old q p there) [
        | inl earlier ↦ so.kept p earlier listed
        | inr is ↦ absurd (not_listed (subst (Contains states) (sym is) listed))
      ];
    }

    pub has_places_more : (place : ℕ) → IsPlaceOf states place q → HasPlaces states (old ++ q ∷ []) (new ++ place ∷ [])
    has_places_more place at = record {
      only = λ k there. elim (Contains-push_cases new place k there) [
        | inl earlier ↦ let before = so.only k earlier in (before.0, Contains-append_left old (q ∷ []) (get_or states k 0) before.1)
        | inr is ↦ subst (λ x. (x < length states) × Contains (old ++ q ∷ []) (get_or states x 0)) is
            (at.0, subst (Contains (old ++ q ∷ [])) (sym at.1) (Contains-push old q))
      ];
      kept = λ p there listed. elim (Contains-push_cases old q p there) [
        | inl earlier ↦ let before = so.kept p earlier listed in (before.0, Contains-append_left new (place ∷ []) before.0 before.1, before.2)
        | inr is ↦ (place, Contains-push new place, subst (IsPlaceOf states place) is at)
      ];
    }

  -- start states one by one
  pub adds_starts_none : (m : NondeterministicAutomaton) → m.starts ≡ [] → AddsPlacedStarts states [] m m
  adds_starts_none m none = record { same_letters = refl; same_states = refl; placed = subst (HasPlaces states []) (sym none) has_places_none }

  module _ (numbers : List ℕ) (q : ℕ) (old mid : NondeterministicAutomaton) (so : AddsPlacedStarts states numbers old mid) where
    pub adds_starts_skip : (Contains states q → ⊥) → AddsPlacedStarts states (numbers ++ q ∷ []) old mid
    adds_starts_skip not_listed = record { same_letters = so.same_letters; same_states = so.same_states; placed = has_places_skip numbers mid.starts q so.placed not_listed }

    pub adds_starts_more : (new : NondeterministicAutomaton) (place : ℕ) → IsPlaceOf states place q → new ≡ with_start mid place → AddsPlacedStarts states (numbers ++ q ∷ []) old new
    adds_starts_more new place at built = subst (AddsPlacedStarts states (numbers ++ q ∷ []) old) (sym built)
        (record { same_letters = so.same_letters; same_states = so.same_states; placed = has_places_more numbers mid.starts q so.placed place at })

  -- edges one by one
  pub placed_none : HasPlacedEdges states [] []
  placed_none = record { only = λ label place there. absurd (Contains-none (label, place) there); kept = λ label q there listed. absurd (Contains-none (label, q) there) }

  module _ (old new : List (Option ℕ × ℕ)) (edge : Option ℕ × ℕ) (so : HasPlacedEdges states old new) where
    pub placed_skip : (Contains states edge.1 → ⊥) → HasPlacedEdges states (old ++ edge ∷ []) new
    placed_skip not_listed = record {
      only = λ label place there. let before = so.only label place there in (before.0, Contains-append_left old (edge ∷ []) (label, get_or states place 0) before.1);
      kept = λ label q there listed. elim (Contains-push_cases old edge (label, q) there) [
        | inl earlier ↦ so.kept label q earlier listed
        | inr is ↦ absurd (not_listed (subst (λ (e : Option ℕ × ℕ). Contains states e.1) (sym is) listed))
      ];
    }

    pub placed_more : (place : ℕ) → IsPlaceOf states place edge.1 → HasPlacedEdges states (old ++ edge ∷ []) (new ++ (edge.0, place) ∷ [])
    placed_more place at = record {
      only = λ label k there. elim (Contains-push_cases new (edge.0, place) (label, k) there) [
        | inl earlier ↦ let before = so.only label k earlier in (before.0, Contains-append_left old (edge ∷ []) (label, get_or states k 0) before.1)
        | inr is ↦ subst (λ (e : Option ℕ × ℕ). (e.1 < length states) × Contains (old ++ edge ∷ []) (e.0, get_or states e.1 0)) is
            (at.0, subst (λ x. Contains (old ++ edge ∷ []) (edge.0, x)) (sym at.1) (Contains-push old edge))
      ];
      kept = λ label q there listed. elim (Contains-push_cases old edge (label, q) there) [
        | inl earlier ↦ let before = so.kept label q earlier listed in (before.0, Contains-append_left new ((edge.0, place) ∷ []) (label, before.0) before.1, before.2)
        | inr is ↦ (
          place,
          subst (λ (e : Option ℕ × ℕ). Contains (new ++ (edge.0, place) ∷ []) (e.0, place)) is (Contains-push new (edge.0, place)),
          subst (λ (e : Option ℕ × ℕ). IsPlaceOf states place e.1) is at,
        )
      ];
    }

  pub placed_turned : (old turned new : List (Option ℕ × ℕ)) → IsPermutation old turned → HasPlacedEdges states turned new → HasPlacedEdges states old new
  placed_turned old turned new turns so = record {
    only = λ label place there.
        let before = so.only label place there in
        (before.0, Contains-permutation turned old (label, get_or states place 0) (IsPermutation-sym old turned turns) before.1);
    kept = λ label q there listed. so.kept label q (Contains-permutation old turned (label, q) turns there) listed;
  }

-- they are added to those of a place one by one
module _ (states : List ℕ) (place : ℕ) where
  pub adds_placed_none : (m : NondeterministicAutomaton) → AddsPlaced states place [] m m
  adds_placed_none m = record { added = []; adds = adds_edges_none place m; placed = placed_none states }

  module _ (edges : List (Option ℕ × ℕ)) (edge : Option ℕ × ℕ) (old mid : NondeterministicAutomaton) (so : AddsPlaced states place edges old mid) where
    pub adds_placed_skip : (Contains states edge.1 → ⊥) → AddsPlaced states place (edges ++ edge ∷ []) old mid
    adds_placed_skip not_listed = record { added = so.added; adds = so.adds; placed = placed_skip states edges so.added edge so.placed not_listed }

    pub adds_placed_more : (new : NondeterministicAutomaton) (target : ℕ) → IsPlaceOf states target edge.1 → AddsMove mid new place edge.0 target
        → AddsPlaced states place (edges ++ edge ∷ []) old new
    adds_placed_more new target at adds = record {
      added = so.added ++ (edge.0, target) ∷ [];
      adds = adds_edges_more place so.added (edge.0, target) old mid new so.adds adds;
      placed = placed_more states edges so.added edge so.placed target at;
    }

    -- the next one is in range
    pub target_in_range : (target : ℕ) → IsPlaceOf states target edge.1 → place < length states → length old.states ≡ length states → IfSome edge.0 (λ a. a < old.letters)
        → IsMoveInRange mid place edge.0 target
    target_in_range target at within size lettered =
        let same = so.adds.same_size in
        let l = at.0 in
        record {
          from_state = omega arith;
          in_alphabet = subst (λ k. IfSome edge.0 (λ a. a < k)) (sym so.adds.same_letters) lettered;
          to_state = omega arith;
        }

-- the letters of an automaton's edges are its own
pub has_letters : (n : NondeterministicAutomaton) → IsInRange n → (p letters : ℕ) → letters ≡ n.letters → HasLetters letters (edges_of n.states p)
has_letters n range p letters is =
    subst (λ k. HasLetters k (edges_of n.states p)) (sym is)
    (All-edges_of (HasLetters n.letters) n.states (All-nil (λ (e : Option ℕ × ℕ). IfSome e.0 (λ a. a < n.letters))) range.letters_in_range p)

pub letters_turned : (letters : ℕ) (old new : List (Option ℕ × ℕ)) → IsPermutation old new → HasLetters letters old → HasLetters letters new
letters_turned letters old new turns all =
    All-from_contains (λ (e : Option ℕ × ℕ). IfSome e.0 (λ a. a < letters)) new (λ e there.
    All-contains (λ (x : Option ℕ × ℕ). IfSome x.0 (λ a. a < letters)) old e all (Contains-permutation new old e (IsPermutation-sym old new turns) there))

-- states one by one
module _ (n : NondeterministicAutomaton) where
  pub states_of_more : (states : List ℕ) (place : ℕ) (accepting : Bool) → place < length states → accepting ≡ is_accepting n.states (get_or states place 0)
      → with_nondeterministic_state (states_of n (take place states)) accepting ≡ states_of n (take (place + 1) states)
  states_of_more states place accepting within is =
      let node : ℕ → Node (Option ℕ) = λ q. record { accepting = is_accepting n.states q; edges = [] } in
      let more : map node (take place states) ++ record { accepting = accepting; edges = [] } ∷ [] ≡ map node (take (place + 1) states) =
      ap (λ b. map node (take place states) ++ record { accepting = b; edges = [] } ∷ []) is
      ∙ sym (map-append node (take place states) (get_or states place 0 ∷ []))
      ∙ sym (ap (map node) (take_more states place 0 within)) in
      ap (λ nodes. record { letters = n.letters; starts = []; states = nodes }) more

  accepting_at : (states : List ℕ) (place : ℕ) → place < length states → is_accepting (states_of n states).states place ≡ is_accepting n.states (get_or states place 0)
  accepting_at [] place within = absurd (omega arith)
  accepting_at (q ∷ states) zero within = refl
  accepting_at (q ∷ states) (suc place) within = accepting_at states place (omega arith)

  no_edges_at : (states : List ℕ) (place : ℕ) → edges_of (states_of n states).states place ≡ []
  no_edges_at [] place = refl
  no_edges_at (q ∷ states) zero = refl
  no_edges_at (q ∷ states) (suc place) = no_edges_at states place

  pub part_none : (states : List ℕ) (alone m : NondeterministicAutomaton) → alone ≡ states_of n states → AddsPlacedStarts states n.starts alone m → IsPartBelow n states 0 m
  part_none states alone m is adds =
      let same : m.states ≡ (states_of n states).states = adds.same_states ∙ ap (λ (a : NondeterministicAutomaton). a.states) is in
      record {
        same_letters = adds.same_letters ∙ ap (λ (a : NondeterministicAutomaton). a.letters) is;
        size = ap length same ∙ length-map states (λ q. record { accepting = is_accepting n.states q; edges = [] });
        acceptance = λ place within. ap (λ nodes. is_accepting nodes place) same ∙ accepting_at states place within;
        starts = adds.placed;
        done = λ place below. absurd (omega arith);
        later = λ place past. ap (λ nodes. edges_of nodes place) same ∙ no_edges_at states place;
      }

  pub part_more : (states : List ℕ) (place : ℕ) (old new : NondeterministicAutomaton) (edges : List (Option ℕ × ℕ)) → IsPartBelow n states place old
      → IsPermutation (edges_of n.states (get_or states place 0)) edges → AddsPlaced states place edges old new → IsPartBelow n states (place + 1) new
  part_more states place old new edges so turns more =
      let adds = more.adds in
      let here : edges_of new.states place ≡ more.added = adds.edges_here ∙ ap (λ es. es ++ more.added) (so.later place (omega arith)) in
      record {
        same_letters = adds.same_letters ∙ so.same_letters;
        size = adds.same_size ∙ so.size;
        acceptance = λ k within. adds.same_acceptance k ∙ so.acceptance k within;
        starts = subst (HasPlaces states n.starts) (sym adds.same_starts) so.starts;
        done = λ k below. elim (cases_eq k place) [
          | inl is ↦
              subst (λ x. HasPlacedEdges states (edges_of n.states (get_or states x 0)) (edges_of new.states x)) (sym is)
              (subst (HasPlacedEdges states (edges_of n.states (get_or states place 0))) (sym here)
              (placed_turned states (edges_of n.states (get_or states place 0)) edges more.added turns more.placed))
          | inr other ↦ subst (HasPlacedEdges states (edges_of n.states (get_or states k 0))) (sym (adds.edges_else k other)) (so.done k (omega arith))
        ];
        later = λ k past. adds.edges_else k (λ is. absurd (omega arith)) ∙ so.later k (omega arith);
      }

accepting_below : (states : List (Node (Option ℕ))) (p : ℕ) → IsTrue (is_accepting states p) → p < length states
accepting_below [] p accepts = absurd (true≢false (sym accepts))
accepting_below (s ∷ states) zero accepts = omega arith
accepting_below (s ∷ states) (suc p) accepts = let l = accepting_below states p accepts in omega arith

along_below : (n : NondeterministicAutomaton) (labels : List (Option ℕ)) (p : ℕ) → AcceptsAlong n p labels → p < length n.states
along_below n [] p along = accepting_below n.states p along
along_below n (label ∷ labels) p along = edges_within n.states p (label, along.0) along.1

module _ (n m : NondeterministicAutomaton) (flags : List Bool) (rejecting : AreRejecting n flags) (size : length flags ≡ length n.states) (states : List ℕ)
    (all : AreUnflagged flags states) (so : IsPart n states m) where
  listed : (labels : List (Option ℕ)) (q : ℕ) → AcceptsAlong n q labels → Contains states q
  listed labels q along = let l = along_below n labels q along in all.complete q (omega arith) (is_live n flags rejecting labels q along)

  up : (labels : List (Option ℕ)) (place : ℕ) → place < length states → AcceptsAlong m place labels → AcceptsAlong n (get_or states place 0) labels
  up [] place within along = sym (so.acceptance place within) ∙ along
  up (label ∷ labels) place within along =
      let edge = (so.done place within).only label along.0 along.1 in
      (get_or states along.0 0, edge.1, up labels along.0 edge.0 along.2)

  down : (labels : List (Option ℕ)) (q place : ℕ) → IsPlaceOf states place q → AcceptsAlong n q labels → AcceptsAlong m place labels
  down [] q place at along = so.acceptance place at.0 ∙ subst (λ p. IsTrue (is_accepting n.states p)) (sym at.1) along
  down (label ∷ labels) q place at along =
      let there = subst (λ p. Contains (edges_of n.states p) (label, along.0)) (sym at.1) along.1 in
      let edge = (so.done place at.0).kept label along.0 there (listed labels along.0 along.2) in
      (edge.0, edge.1, down labels along.0 edge.0 edge.2 along.2)

  pub part_accepts : (w : List ℕ) → Accepts m w ↔ Accepts n w
  part_accepts w = (
    any_accepts m n m.starts n.starts (λ labels place there along.
        let start = so.starts.only place there in
        (get_or states place 0, start.1, up labels place start.0 along)) w,
    any_accepts n m n.starts m.starts (λ labels q there along.
        let start = so.starts.kept q there (listed labels q along) in
        (start.0, start.1, down labels q start.0 start.2 along)) w,
  )
