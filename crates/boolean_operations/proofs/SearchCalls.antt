-- What the functions of a search keep, call by call.
use Rattle.std.proofs.Common.{◌≡◌, ◌+◌, ◌<◌, ◌≤◌, ◌⊎◌, ◌↔◌, ℕ, suc, Bool, false, List, [], ◌∷◌, Option, None, Some, Contains, get_or, length, reverse, slice_get, refl, sym, ap, subst, ◌∙◌, inl, inr, arith}
use Rattle.std.proofs.lemmas.Bool.{cases_eq, cases_lt}
use Rattle.std.proofs.lemmas.List.Elements.{Contains-get_or}
use Rattle.std.proofs.lemmas.List.Sorted.{Contains-permutation, IsPermutation-sym}
use Rattle.std.proofs.lemmas.Option.{same_Some, slice_get_within, slice_get-get_or}
use Rattle.std.specs.List.Sorted.{IsPermutation, IsNonDecreasingBy}
use Rattle.word_automata.proofs.ForCallers.{Contains-none}
use Rattle.exploration.proofs.ForCallers.{slice_get-some}
use Rattle.boolean_operations.specs.private.Search.{IsReached, IsIn, IsNotAfter, Spells, AreRising, Reached, Done, BeginsAt, AreStepsOf, AreInOrder, IsBounded, AreBefore, Extends, Joins, Gathers, AreFound, AreTaken, AreBounded, AreStepsUpTo}
use Rattle.boolean_operations.proofs.SearchSteps.{reached_silently, in_kept, not_after_kept, Joined, joined, closed_more}

-- an element that a list contains has a place
pub place_of : {X : Type 0} (xs : List X) (x : X) → Contains xs x → (i : ℕ) × (i < length xs) × (slice_get xs i ≡ Some x)
place_of xs x (k, within, here) = (k, within, slice_get-get_or xs k x within ∙ ap Some here)

pub contains_at : {X : Type 0} (xs : List X) (x : X) (i : ℕ) → slice_get xs i ≡ Some x → Contains xs x
contains_at xs x i at =
    let within : i < length xs = slice_get_within xs i x at in
    subst (Contains xs) (same_Some (get_or xs i x) x (sym (slice_get-get_or xs i x within) ∙ at)) (Contains-get_or xs i x within)

module _ {S : Type 0} where
  -- what is found or taken stays so
  pub are_found_kept : {found new : List S} {groups new_groups : List ℕ} {steps new_steps : List (ℕ × ℕ)} {first : ℕ} → Extends found groups steps new new_groups new_steps first
      → (last : ℕ) (targets : List S) (n : ℕ) → AreFound found groups last targets n → AreFound new new_groups last targets n
  are_found_kept x last targets n there i s l at = let h = there i s l at in (h.0, in_kept x s h.0 h.1, h.2)

  pub are_found_more : (found : List S) (groups : List ℕ) (last : ℕ) (targets : List S) (n : ℕ) (t : S) → slice_get targets n ≡ Some t
      → AreFound found groups last targets n → ((h : ℕ) × IsIn found groups t h × (h ≤ last)) → AreFound found groups last targets (n + 1)
  are_found_more found groups last targets n t at there new i s l here = by (cases_eq i n)
    where
      by : (i ≡ n) ⊎ (i ≡ n → ⊥) → (h : ℕ) × IsIn found groups s h × (h ≤ last)
      by (inr other) = there i s (omega arith) here
      by (inl same) =
          let is : t ≡ s = same_Some t s (sym at ∙ sym (ap (slice_get targets) same) ∙ here) in
          subst (λ x. (h : ℕ) × IsIn found groups x h × (h ≤ last)) is new

  pub are_taken_kept : {found new : List S} {groups new_groups : List ℕ} {steps new_steps : List (ℕ × ℕ)} {first : ℕ} → Extends found groups steps new new_groups new_steps first
      → (from : ℕ) (pending : List (ℕ × S)) (n : ℕ) → AreTaken found groups steps from pending n → AreTaken new new_groups new_steps from pending n
  are_taken_kept x from pending n there i a r l at =
      let h = there i a r l at in (h.0, in_kept x r h.0 h.1, not_after_kept x h.0 from a h.2)

  pub are_taken_more : (found : List S) (groups : List ℕ) (steps : List (ℕ × ℕ)) (from : ℕ) (pending : List (ℕ × S)) (n b : ℕ) (t : S) → slice_get pending n ≡ Some (b, t)
      → AreTaken found groups steps from pending n → ((h : ℕ) × IsIn found groups t h × IsNotAfter steps h from b) → AreTaken found groups steps from pending (n + 1)
  are_taken_more found groups steps from pending n b t at there new i a r l here = by (cases_eq i n)
    where
      by : (i ≡ n) ⊎ (i ≡ n → ⊥) → (h : ℕ) × IsIn found groups r h × IsNotAfter steps h from a
      by (inr other) = there i a r (omega arith) here
      by (inl same) =
          let is : ◌≡◌ {A = ℕ × S} (b, t) (a, r) = same_Some (b, t) (a, r) (sym at ∙ sym (ap (slice_get pending) same) ∙ here) in
          subst (λ (x : ℕ × S). (h : ℕ) × IsIn found groups x.1 h × IsNotAfter steps h from x.0) is new

module _ {S : Type 0} {start : S → Type 0} {edge : S → Option ℕ → S → Type 0} where
  -- all starts are found
  pub begun : {goal : S → Bool} {found : List S} {groups : List ℕ} (starts : List S) → ((s : S) → Contains starts s ↔ start s) → (n : ℕ) → length starts ≤ n → AreFound found groups 0 starts n
      → Done start edge goal found groups [] 0
  begun {found = found} {groups = groups} starts are n all there = record {
    starts = λ s begins. first s (place_of starts s ((are s).1 begins));
    done = λ s r g a in_group l goes. absurd (omega arith);
    inside = λ s g in_group l. absurd (omega arith);
  }
    where
      first : (s : S) → (i : ℕ) × (i < length starts) × (slice_get starts i ≡ Some s) → IsIn found groups s 0
      first s (i, l, at) = let h = there i s (omega arith) at in let zero_is : h.0 ≡ 0 = (let m = h.2 in omega arith) in subst (IsIn found groups s) zero_is h.1

module _ {S : Type 0} {P start : S → Type 0} {edge : S → Option ℕ → S → Type 0} where
  -- a start that is found
  pub start_joined : {found new : List S} {groups new_groups : List ℕ} → Reached P start edge found groups [] (length found) → (s : S) → P s → start s
      → Joins found new groups new_groups s 0 → Joined P start edge found groups [] (length found) new new_groups s
  start_joined e s valid begins joins = joined e (omega arith) s valid reached joins
    where
      reached : (u : List ℕ) → Spells [] u 0 → IsReached start edge s (reverse u)
      reached [] h = (s, [], begins, refl, refl)
      reached (a ∷ u) h = absurd h

  pub reached_nothing : Reached P start edge [] [] [] 0
  reached_nothing = record {
    are_steps = record { back = λ k e h. cc; ordered = λ j k d e l h i. cc };
    count = refl;
    states = λ i s h. cc;
    owned = λ i g h. cc;
    rising = λ i j g h l x y. cc;
    in_last = λ i g l h. cc;
    reached = λ s g there u spells. absurd (none s there.0 there.1);
    silent = λ i g s r l at in_group goes. cc;
  }
    where
      none : (s : S) (i : ℕ) → slice_get [] i ≡ Some s → ⊥
      none s i at = cc

  module _ {steps : List (ℕ × ℕ)} {place : ℕ} {entry found : List S} {entry_groups groups : List ℕ} (e : Reached P start edge found groups steps place) (within : place < length entry)
      (x : Extends entry entry_groups steps found groups steps (length steps)) (s : S) (at : slice_get entry place ≡ Some s) (targets : List S) (gathers : Gathers P (edge s None) [] targets) where
    still : slice_get found place ≡ Some s
    still = x.found_kept place s at

    -- the target of an edge without a letter
    pub target_joined : {new : List S} {new_groups : List ℕ} (n : ℕ) (t : S) → slice_get targets n ≡ Some t → Joins found new groups new_groups t (length steps)
        → Joined P start edge found groups steps place new new_groups t
    target_joined n t there joins =
        let l = slice_get_within found place s still in
        joined e (omega arith) t (is_edge (gathers.only t (contains_at targets t n there))).0
        (λ u spells. reached_silently start edge s t (reverse u) (reached u spells) (is_edge (gathers.only t (contains_at targets t n there))).1) joins
      where
        is_edge : Contains [] t ⊎ (P t × edge s None t) → P t × edge s None t
        is_edge (inl none) = absurd (Contains-none t none)
        is_edge (inr both) = both

        reached : (u : List ℕ) → Spells steps u (length steps) → IsReached start edge s (reverse u)
        reached u spells =
            let group = slice_get-some groups place (let l = slice_get_within found place s still in let c = e.count in omega arith) in
            let last : group.0 ≡ length steps = e.in_last place group.0 (omega arith) group.1 in
            e.reached s group.0 (place, still, group.1) u (subst (Spells steps u) (sym last) spells)

    -- and when all are found
    pub targets_found : (n : ℕ) → length targets ≤ n → AreFound found groups (length steps) targets n → Reached P start edge found groups steps (place + 1)
    targets_found n all there =
        subst (Reached P start edge found groups steps) (let e : suc place ≡ place + 1 = omega arith in e)
        (closed_more e (let l = slice_get_within found place s still in omega arith)
        (λ t r here goes.
        let same : s ≡ t = same_Some s t (sym still ∙ here) in
        let p = place_of targets r (gathers.all r (subst (λ y. edge y None r) (sym same) goes)) in
        there p.0 r (omega (arith, p.1)) p.2))

-- a sort by letters
pub in_order_sorted : {S : Type 0} (pending : List (ℕ × S)) → IsNonDecreasingBy (λ (step : ℕ × S). step.0) pending → AreInOrder pending
in_order_sorted {S} pending sorted i j a b r s l at there =
    let within : j < length pending = slice_get_within pending j (b, s) there in
    let first : get_or pending i (a, r) ≡ (a, r) = same_Some (get_or pending i (a, r)) (a, r) (sym (slice_get-get_or pending i (a, r) (omega arith)) ∙ at) in
    let second : get_or pending j (a, r) ≡ (b, s) = same_Some (get_or pending j (a, r)) (b, s) (sym (slice_get-get_or pending j (a, r) within) ∙ there) in
    let up = sorted i j (a, r) l within in
    omega (arith, ap (λ (x : ℕ × S). x.0) first, ap (λ (x : ℕ × S). x.0) second, up)

-- the gathering of a group
module _ {S : Type 0} {P : S → Type 0} {edge : S → Option ℕ → S → Type 0} {goal : S → Bool} {found : List S} {groups : List ℕ} {group from : ℕ}
    (count : length groups ≡ length found) (rising : AreRising groups) (begins : BeginsAt groups from group) where
  pub gathered_none : AreStepsUpTo P edge goal found groups group from from []
  gathered_none = record {
    order = omega arith;
    within = begins.within;
    members = λ i g l m at. absurd (omega arith);
    all = λ i s r a l m at goes. absurd (omega arith);
    only = λ a r there. absurd (Contains-none (a, r) there);
    no_goal = λ i s l m at. absurd (omega arith);
  }

  module _ {place : ℕ} {pending : List (ℕ × S)} (e : AreStepsUpTo P edge goal found groups group from place pending) where
    pub gathered_more : (new : List (ℕ × S)) (s : S) → slice_get found place ≡ Some s → slice_get groups place ≡ Some group → goal s ≡ false
        → Gathers {X = ℕ × S} (λ step. P step.1) (λ step. edge s (Some step.0) step.1) pending new → AreStepsUpTo P edge goal found groups group from (place + 1) new
    gathered_more new s at in_group no_goal gathers = record {
      order = (let o = e.order in omega arith);
      within = (let l = slice_get_within groups place group in_group in omega arith);
      members = λ i g l m there. members i g l m there (cases_eq i place);
      all = λ i t r a l m there goes. all i t r a l m there goes (cases_eq i place);
      only = λ a r there. only a r (gathers.only (a, r) there);
      no_goal = λ i t l m there. no_goal_of i t l m there (cases_eq i place);
    }
      where
        members : (i g : ℕ) → from ≤ i → i < place + 1 → slice_get groups i ≡ Some g → (i ≡ place) ⊎ (i ≡ place → ⊥) → g ≡ group
        members i g l m there (inr other) = e.members i g l (omega arith) there
        members i g l m there (inl same) = same_Some g group (sym there ∙ ap (slice_get groups) same ∙ in_group)

        all : (i : ℕ) (t r : S) (a : ℕ) → from ≤ i → i < place + 1 → slice_get found i ≡ Some t → edge t (Some a) r → (i ≡ place) ⊎ (i ≡ place → ⊥) → Contains new (a, r)
        all i t r a l m there goes (inr other) = gathers.kept (a, r) (e.all i t r a l (omega arith) there goes)
        all i t r a l m there goes (inl same) =
            let is : t ≡ s = same_Some t s (sym there ∙ ap (slice_get found) same ∙ at) in
            gathers.all (a, r) (subst (λ y. edge y (Some a) r) is goes)

        only : (a : ℕ) (r : S) → Contains pending (a, r) ⊎ (P r × edge s (Some a) r) → P r × ((t : S) × IsIn found groups t group × edge t (Some a) r)
        only a r (inl old) = e.only a r old
        only a r (inr both) = (both.0, (s, (place, at, in_group), both.1))

        no_goal_of : (i : ℕ) (t : S) → from ≤ i → i < place + 1 → slice_get found i ≡ Some t → (i ≡ place) ⊎ (i ≡ place → ⊥) → goal t ≡ false
        no_goal_of i t l m there (inr other) = e.no_goal i t l (omega arith) there
        no_goal_of i t l m there (inl same) = ap goal (same_Some t s (sym there ∙ ap (slice_get found) same ∙ at)) ∙ no_goal

    -- the next state is of another group, or there is none
    pub gathered_all : ((g : ℕ) → slice_get groups place ≡ Some g → g ≡ group → ⊥) → BeginsAt groups place (suc group) × AreStepsOf P edge goal found groups group pending
    gathered_all ends = (
      record {
        within = e.within;
        before = λ i g l at. before i g l at;
        after = λ i g l at. after i g l at;
      },
      record {
        all = λ s r a there goes. let p = placed s there in e.all there.0 s r a p.0 p.1 there.1 goes;
        only = e.only;
        no_goal = λ s there. let p = placed s there in e.no_goal there.0 s p.0 p.1 there.1;
      },
    )
      where
        before : (i g : ℕ) → i < place → slice_get groups i ≡ Some g → g < suc group
        before i g l at = elim (cases_lt i from) [
          | inl less ↦ let b = begins.before i g less at in omega arith
          | inr not_less ↦ let m = e.members i g (omega arith) l at in omega arith
        ]

        after : (i g : ℕ) → place ≤ i → slice_get groups i ≡ Some g → suc group ≤ g
        after i g l at =
            let within : i < length groups = slice_get_within groups i g at in
            let first = slice_get-some groups place (omega arith) in
            let o = e.order in
            let low = begins.after place first.0 o first.1 in
            let up = rising place i first.0 g l first.1 at in
            elim (cases_eq first.0 group) [ inl same ↦ absurd (ends first.0 first.1 same) | inr other ↦ omega arith ]

        placed : (s : S) (there : IsIn found groups s group) → (from ≤ there.0) × (there.0 < place)
        placed s there = elim (cases_lt there.0 from) [
          | inl less ↦ absurd (let b = begins.before there.0 group less there.2 in omega arith)
          | inr not_less ↦ elim (cases_lt there.0 place) [
            | inl inside ↦ (omega arith, inside)
            | inr outside ↦ absurd (let a = after there.0 group (omega arith) there.2 in omega arith)
          ]
        ]

-- the taking of a group's steps
module _ {S : Type 0} (pending : List (ℕ × S)) (from : ℕ) where
  pub bounded_first : (steps : List (ℕ × ℕ)) → AreBefore steps from → AreBounded steps from pending 0
  bounded_first steps before i a r l at k p b there = inl (before k p b there)

  pub bounded_on : AreInOrder pending → (steps : List (ℕ × ℕ)) (n a : ℕ) (r : S) → slice_get pending n ≡ Some (a, r) → IsBounded steps from a → AreBounded steps from pending (n + 1)
  bounded_on in_order steps n a r at bounded i b t l there k p c here =
      let up = in_order n i a b r t (omega arith) at there in
      elim (bounded k p c here) [ inl less ↦ inl less | inr same ↦ inr (same.0, (let m = same.1 in omega arith)) ]

pub before_bounded : (steps : List (ℕ × ℕ)) (from a : ℕ) → IsBounded steps from a → AreBefore steps (from + 1)
before_bounded steps from a bounded k p b at = elim (bounded k p b at) [ inl less ↦ omega arith | inr same ↦ let e = same.0 in omega arith ]

module _ {S : Type 0} {P : S → Type 0} {edge : S → Option ℕ → S → Type 0} {goal : S → Bool} {found : List S} {groups : List ℕ} {from : ℕ} {pending : List (ℕ × S)}
    (are : AreStepsOf P edge goal found groups from pending) where
  pub source_of : {new : List S} {new_groups : List ℕ} {steps new_steps : List (ℕ × ℕ)} {first : ℕ} → Extends found groups steps new new_groups new_steps first
      → (n a : ℕ) (r : S) → slice_get pending n ≡ Some (a, r) → P r × ((s : S) × IsIn new new_groups s from × edge s (Some a) r)
  source_of x n a r at =
      let both = are.only a r (contains_at pending (a, r) n at) in
      (both.0, (both.1.0, in_kept x both.1.0 from both.1.1, both.1.2))

  -- a sort keeps the steps
  pub steps_sorted : (sorted : List (ℕ × S)) → IsPermutation pending sorted → AreStepsOf P edge goal found groups from sorted
  steps_sorted sorted moved = record {
    all = λ s r a there goes. Contains-permutation pending sorted (a, r) moved (are.all s r a there goes);
    only = λ a r there. are.only a r (Contains-permutation sorted pending (a, r) (IsPermutation-sym pending sorted moved) there);
    no_goal = are.no_goal;
  }
