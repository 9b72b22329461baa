-- The steps of a search: a state that is found, the states without a silent edge that is open, and the steps of a group.
use Rattle.std.proofs.Common.{◌≡◌, ◌+◌, ◌<◌, ◌≤◌, ◌⊎◌, ℕ, suc, zero, Bool, false, List, [], ◌∷◌, ◌++◌, Option, None, Some, Contains, length, reverse, slice_get, refl, sym, ap, subst, ◌∙◌, inl, inr, arith, length-append}
use Rattle.std.proofs.lemmas.Bool.{cases_eq, cases_lt}
use Rattle.std.proofs.lemmas.List.{reverse-append, append_assoc, append-nil}
use Rattle.std.proofs.lemmas.Option.{same_Some, slice_get_within}
use Rattle.word_automata.specs.Path.{spelled_one}
use Rattle.exploration.specs.private.Worklist.{IsEarlier}
use Rattle.exploration.proofs.ForCallers.{slice_get-append, slice_get-append_below, slice_get-push, slice_get-push_cases, slice_get-some}
use Rattle.boolean_operations.specs.private.Search.{Leads, letters_of, IsReached, IsIn, Spells, IsNotAfter, AreSteps, Reached, Done, BeginsAt, AreStepsOf, IsBounded, Extends, Joins, IsLast, HasLastStep}

module _ {S : Type 0} (start : S → Type 0) (edge : S → Option ℕ → S → Type 0) where
  leads_push : (moves : List (Option ℕ × S)) (s t r : S) (l : Option ℕ) → Leads edge s moves t → edge t l r → Leads edge s (moves ++ (l, r) ∷ []) r
  leads_push [] s t r l same goes = (subst (λ x. edge x l r) (sym same) goes, refl)
  leads_push (move ∷ moves) s t r l leads goes = (leads.0, leads_push moves move.1 t r l leads.1 goes)

  letters_push : (moves : List (Option ℕ × S)) (r : S) (l : Option ℕ) → letters_of (moves ++ (l, r) ∷ []) ≡ letters_of moves ++ spelled_one l
  letters_push [] r l = append-nil (spelled_one l)
  letters_push (move ∷ moves) r l =
      ap (λ w. spelled_one move.0 ++ w) (letters_push moves r l) ∙ sym (append_assoc (spelled_one move.0) (letters_of moves) (spelled_one l))

  -- a word and then an edge
  reached_on : (t r : S) (l : Option ℕ) (w : List ℕ) → IsReached start edge t w → edge t l r → IsReached start edge r (w ++ spelled_one l)
  reached_on t r l w (s, moves, begins, leads, says) goes =
      (s, moves ++ (l, r) ∷ [], begins, leads_push moves s t r l leads goes, letters_push moves r l ∙ ap (λ x. x ++ spelled_one l) says)

  pub reached_silently : (t r : S) (w : List ℕ) → IsReached start edge t w → edge t None r → IsReached start edge r w
  reached_silently t r w reached goes = subst (IsReached start edge r) (append-nil w) (reached_on t r None w reached goes)

  reached_by : (t r : S) (a : ℕ) (u : List ℕ) → IsReached start edge t (reverse u) → edge t (Some a) r → IsReached start edge r (reverse (a ∷ u))
  reached_by t r a u reached goes = subst (IsReached start edge r) (sym (reverse-append (a ∷ []) u)) (reached_on t r (Some a) (reverse u) reached goes)

-- groups keep their words when steps are added
spells_append : (steps more : List (ℕ × ℕ)) → AreSteps steps → (u : List ℕ) (g : ℕ) → g ≤ length steps → Spells (steps ++ more) u g → Spells steps u g
spells_append steps more are [] g l h = h
spells_append steps more are (a ∷ u) zero l h = absurd h
spells_append steps more are (a ∷ u) (suc k) l (p, at, rest) =
    let there : slice_get steps k ≡ Some (p, a) = sym (slice_get-append_below steps more k (omega arith)) ∙ at in
    let b : p ≤ k = are.back k (p, a) there in
    (p, there, spells_append steps more are u p (omega arith) rest)

-- places that are kept are there
pub kept_longer : {X : Type 0} (xs ys : List X) → ((i : ℕ) (x : X) → slice_get xs i ≡ Some x → slice_get ys i ≡ Some x) → length xs ≤ length ys
kept_longer xs ys kept = elim (cases_lt (length ys) (length xs)) [
  | inl less ↦ let x = slice_get-some xs (length ys) less in absurd (let l = slice_get_within ys (length ys) x.0 (kept (length ys) x.0 x.1) in omega arith)
  | inr not_less ↦ omega arith
]

module _ {S : Type 0} where
  in_push : (found : List S) (groups : List ℕ) (x : S) (o : ℕ) (s : S) (g : ℕ) → IsIn found groups s g → IsIn (found ++ x ∷ []) (groups ++ o ∷ []) s g
  in_push found groups x o s g (i, at, in_group) = (i, slice_get-append found (x ∷ []) i s at, slice_get-append groups (o ∷ []) i g in_group)

  in_push_cases : (found : List S) (groups : List ℕ) (x : S) (o : ℕ) → length groups ≡ length found → (s : S) (g : ℕ) → IsIn (found ++ x ∷ []) (groups ++ o ∷ []) s g
      → IsIn found groups s g ⊎ ((x ≡ s) × (o ≡ g))
  in_push_cases found groups x o count s g (i, at, in_group) = by (slice_get-push_cases found x s i at) (slice_get-push_cases groups o g i in_group)
    where
      by : (slice_get found i ≡ Some s) ⊎ ((i ≡ length found) × (x ≡ s)) → (slice_get groups i ≡ Some g) ⊎ ((i ≡ length groups) × (o ≡ g)) → IsIn found groups s g ⊎ ((x ≡ s) × (o ≡ g))
      by (inl old) (inl old_group) = inl (i, old, old_group)
      by (inl old) (inr new) = absurd (let l = slice_get_within found i s old in let e = new.0 in omega arith)
      by (inr new) (inl old_group) = absurd (let l = slice_get_within groups i g old_group in let e = new.0 in omega arith)
      by (inr new) (inr new_group) = inr (new.1, new_group.1)

  pub extends-nothing : {found : List S} {groups : List ℕ} {steps : List (ℕ × ℕ)} {first : ℕ} → Extends found groups steps found groups steps first
  extends-nothing = record {
    found_kept = λ i s h. h;
    groups_kept = λ i g h. h;
    steps_kept = λ k e h. h;
    later = λ i g h. inl h;
  }

  module _ {f1 f2 f3 : List S} {g1 g2 g3 : List ℕ} {s1 s2 s3 : List (ℕ × ℕ)} {first second : ℕ} where
    pub extends-trans : Extends f1 g1 s1 f2 g2 s2 first → Extends f2 g2 s2 f3 g3 s3 second → first ≤ second → Extends f1 g1 s1 f3 g3 s3 first
    extends-trans x y le = record {
      found_kept = λ i s h. y.found_kept i s (x.found_kept i s h);
      groups_kept = λ i g h. y.groups_kept i g (x.groups_kept i g h);
      steps_kept = λ k e h. y.steps_kept k e (x.steps_kept k e h);
      later = λ i g h. elim (y.later i g h) [
        | inl old ↦ x.later i g old
        | inr new ↦ inr (let l = kept_longer g1 g2 x.groups_kept in let m = new.0 in let n = new.1 in (omega arith, omega arith))
      ];
    }

  extends-weaker : {f1 f2 : List S} {g1 g2 : List ℕ} {s1 s2 : List (ℕ × ℕ)} {first second : ℕ} → Extends f1 g1 s1 f2 g2 s2 first → second ≤ first → Extends f1 g1 s1 f2 g2 s2 second
  extends-weaker x le = record {
    found_kept = x.found_kept;
    groups_kept = x.groups_kept;
    steps_kept = x.steps_kept;
    later = λ i g h. elim (x.later i g h) [ inl old ↦ inl old | inr new ↦ inr (new.0, (let n = new.1 in omega arith)) ];
  }

  module _ {found new : List S} {groups new_groups : List ℕ} {steps new_steps : List (ℕ × ℕ)} {first : ℕ} (x : Extends found groups steps new new_groups new_steps first) where
    pub in_kept : (s : S) (g : ℕ) → IsIn found groups s g → IsIn new new_groups s g
    in_kept s g (i, at, in_group) = (i, x.found_kept i s at, x.groups_kept i g in_group)

    pub not_after_kept : (h g a : ℕ) → IsNotAfter steps h g a → IsNotAfter new_steps h g a
    not_after_kept h g a (inl zero_is) = inl zero_is
    not_after_kept h g a (inr (k, is, p, b, at, order)) = inr (k, is, p, b, x.steps_kept k (p, b) at, order)

    pub in_old : length groups ≡ length found → (s : S) (g : ℕ) → IsIn new new_groups s g → g < first → IsIn found groups s g
    in_old count s g (i, at, in_group) l = by (x.later i g in_group)
      where
        by : (slice_get groups i ≡ Some g) ⊎ ((length groups ≤ i) × (first ≤ g)) → IsIn found groups s g
        by (inr late) = absurd (let n = late.1 in omega arith)
        by (inl old) =
            let there = slice_get-some found i (let w = slice_get_within groups i g old in omega arith) in
            let same : there.0 ≡ s = same_Some there.0 s (sym (x.found_kept i there.0 there.1) ∙ at) in
            (i, subst (λ y. slice_get found i ≡ Some y) same there.1, old)

    pub begins_kept : {place : ℕ} → BeginsAt groups place first → BeginsAt new_groups place first
    begins_kept begins = record {
      within = (let l = kept_longer groups new_groups x.groups_kept in let w = begins.within in omega arith);
      before = λ i g l h. elim (x.later i g h) [ inl old ↦ begins.before i g l old | inr late ↦ absurd (let w = begins.within in let m = late.0 in omega arith) ];
      after = λ i g l h. elim (x.later i g h) [ inl old ↦ begins.after i g l old | inr late ↦ late.1 ];
    }

-- a state that joins the last group
pub record Joined {S : Type 0} (P start : S → Type 0) (edge : S → Option ℕ → S → Type 0) (found : List S) (groups : List ℕ) (steps : List (ℕ × ℕ)) (closed : ℕ)
    (new : List S) (new_groups : List ℕ) (s : S) : Type 0 where
  pub reached : Reached P start edge new new_groups steps closed
  pub extends : Extends found groups steps new new_groups steps (length steps)
  pub there : (h : ℕ) × IsIn new new_groups s h × (h ≤ length steps)

-- one more state at the end, in the last group
module _ {S : Type 0} {P start : S → Type 0} {edge : S → Option ℕ → S → Type 0} {found : List S} {groups : List ℕ} {steps : List (ℕ × ℕ)} {closed : ℕ}
    (e : Reached P start edge found groups steps closed) (closed_within : closed ≤ length found) where
  module _ (more : List (ℕ × ℕ)) (are : AreSteps (steps ++ more)) (in_last : (i g : ℕ) → closed ≤ i → slice_get groups i ≡ Some g → g ≡ length (steps ++ more))
      (s : S) (valid : P s) (reached : (u : List ℕ) → Spells (steps ++ more) u (length (steps ++ more)) → IsReached start edge s (reverse u)) where
    last : ℕ
    last = length (steps ++ more)

    longer : length steps ≤ length (steps ++ more)
    longer = omega (arith, length-append steps more)

    group_cases : (i g : ℕ) → slice_get (groups ++ length (steps ++ more) ∷ []) i ≡ Some g → (slice_get groups i ≡ Some g) ⊎ ((i ≡ length groups) × (length (steps ++ more) ≡ g))
    group_cases i g h = slice_get-push_cases groups (length (steps ++ more)) g i h

    pub grown : Reached P start edge (found ++ s ∷ []) (groups ++ length (steps ++ more) ∷ []) (steps ++ more) closed
    grown = record {
      are_steps = are;
      count = (let x = length-append groups (length (steps ++ more) ∷ []) in let y = length-append found (s ∷ []) in let z = e.count in omega arith);
      states = λ i r h. states i r (slice_get-push_cases found s r i h);
      owned = λ i g h. owned i g (group_cases i g h);
      rising = λ i j g h l x y. rising i j g h l (group_cases i g x) (group_cases j h y);
      in_last = λ i g l h. last_group i g l (group_cases i g h);
      reached = λ r g there u spells. is_reached r g u spells (in_push_cases found groups s (length (steps ++ more)) e.count r g there);
      silent = λ i g r t l at in_group goes. silent i g r t l (slice_get-push_cases found s r i at) (group_cases i g in_group) goes;
    }
      where
        states : (i : ℕ) (r : S) → (slice_get found i ≡ Some r) ⊎ ((i ≡ length found) × (s ≡ r)) → P r
        states i r (inl old) = e.states i r old
        states i r (inr new) = subst P new.1 valid

        owned : (i g : ℕ) → (slice_get groups i ≡ Some g) ⊎ ((i ≡ length groups) × (length (steps ++ more) ≡ g)) → g ≤ length (steps ++ more)
        owned i g (inl old) = let l = e.owned i g old in let m = longer in omega arith
        owned i g (inr new) = let l = new.1 in omega arith

        rising : (i j g h : ℕ) → i ≤ j → (slice_get groups i ≡ Some g) ⊎ ((i ≡ length groups) × (length (steps ++ more) ≡ g))
            → (slice_get groups j ≡ Some h) ⊎ ((j ≡ length groups) × (length (steps ++ more) ≡ h)) → g ≤ h
        rising i j g h l (inl x) (inl y) = e.rising i j g h l x y
        rising i j g h l (inl x) (inr y) = let m = e.owned i g x in let n = longer in let k = y.1 in omega arith
        rising i j g h l (inr x) (inl y) = absurd (let m = slice_get_within groups j h y in let k = x.0 in omega arith)
        rising i j g h l (inr x) (inr y) = let m = x.1 in let n = y.1 in omega arith

        last_group : (i g : ℕ) → closed ≤ i → (slice_get groups i ≡ Some g) ⊎ ((i ≡ length groups) × (length (steps ++ more) ≡ g)) → g ≡ length (steps ++ more)
        last_group i g l (inl old) = in_last i g l old
        last_group i g l (inr new) = sym new.1

        is_reached : (r : S) (g : ℕ) (u : List ℕ) → Spells (steps ++ more) u g → IsIn found groups r g ⊎ ((s ≡ r) × (length (steps ++ more) ≡ g)) → IsReached start edge r (reverse u)
        is_reached r g u spells (inl old) = e.reached r g old u (spells_append steps more e.are_steps u g (e.owned old.0 g old.2) spells)
        is_reached r g u spells (inr new) =
            subst (λ x. IsReached start edge x (reverse u)) new.0 (reached u (subst (Spells (steps ++ more) u) (sym new.1) spells))

        silent : (i g : ℕ) (r t : S) → i < closed → (slice_get found i ≡ Some r) ⊎ ((i ≡ length found) × (s ≡ r)) → (slice_get groups i ≡ Some g) ⊎ ((i ≡ length groups) × (length (steps ++ more) ≡ g))
            → edge r None t → (h : ℕ) × IsIn (found ++ s ∷ []) (groups ++ length (steps ++ more) ∷ []) t h × (h ≤ g)
        silent i g r t l (inl at) (inl in_group) goes =
            let to = e.silent i g r t l at in_group goes in (to.0, in_push found groups s (length (steps ++ more)) t to.0 to.1, to.2)
        silent i g r t l (inr at) in_group goes = absurd (let m = at.0 in omega arith)
        silent i g r t l (inl at) (inr in_group) goes = absurd (let m = in_group.0 in let n = e.count in omega arith)

    pub grown_extends : Extends found groups steps (found ++ s ∷ []) (groups ++ length (steps ++ more) ∷ []) (steps ++ more) (length (steps ++ more))
    grown_extends = record {
      found_kept = λ i r h. slice_get-append found (s ∷ []) i r h;
      groups_kept = λ i g h. slice_get-append groups (length (steps ++ more) ∷ []) i g h;
      steps_kept = λ k x h. slice_get-append steps more k x h;
      later = λ i g h. elim (group_cases i g h) [ inl old ↦ inl old | inr new ↦ inr (let x = new.0 in let y = new.1 in (omega arith, omega arith)) ];
    }

    pub grown_in : IsIn (found ++ s ∷ []) (groups ++ length (steps ++ more) ∷ []) s (length (steps ++ more))
    grown_in = (
      length found,
      slice_get-push found s,
      subst (λ i. slice_get (groups ++ length (steps ++ more) ∷ []) i ≡ Some (length (steps ++ more))) e.count
          (slice_get-push groups (length (steps ++ more))),
    )

  pub joined : {new : List S} {new_groups : List ℕ} (s : S) → P s → ((u : List ℕ) → Spells steps u (length steps) → IsReached start edge s (reverse u))
      → Joins found new groups new_groups s (length steps) → Joined P start edge found groups steps closed new new_groups s
  joined {new = new} {new_groups = new_groups} s valid reached (inl old) =
      subst (λ xs. Joined P start edge found groups steps closed xs new_groups s) (sym old.same_found)
      (subst (λ ys. Joined P start edge found groups steps closed found ys s) (sym old.same_groups)
      (record {
        reached = e;
        extends = extends-nothing;
        there = (
            let within = slice_get_within found old.place s old.at in
            let group = slice_get-some groups old.place (let c = e.count in omega arith) in
            (group.0, (old.place, old.at, group.1), e.owned old.place group.0 group.1)
            );
      }))
  joined {new = new} {new_groups = new_groups} s valid reached (inr fresh) =
      let whole : steps ++ [] ≡ steps = append-nil steps in
      let are = subst AreSteps (sym whole) e.are_steps in
      let in_last : (i g : ℕ) → closed ≤ i → slice_get groups i ≡ Some g → g ≡ length (steps ++ []) = λ i g l h. e.in_last i g l h ∙ ap length (sym whole) in
      let spelled = subst (λ k. (u : List ℕ) → Spells k u (length k) → IsReached start edge s (reverse u)) (sym whole) reached in
      subst (λ xs. Joined P start edge found groups steps closed xs new_groups s) (sym fresh.added)
      (subst (λ ys. Joined P start edge found groups steps closed (found ++ s ∷ []) ys s) (sym fresh.group_added)
      (record {
        reached = subst (λ k. Reached P start edge (found ++ s ∷ []) (groups ++ length k ∷ []) k closed) whole (grown [] are in_last s valid spelled);
        extends = subst (λ k. Extends found groups steps (found ++ s ∷ []) (groups ++ length k ∷ []) k (length k)) whole (grown_extends [] are in_last s valid spelled);
        there = (length steps, subst (λ k. IsIn (found ++ s ∷ []) (groups ++ length k ∷ []) s (length k)) whole (grown_in [] are in_last s valid spelled), omega arith);
      }))

  -- the edges without a letter from one more state
  pub closed_more : ((s r : S) → slice_get found closed ≡ Some s → edge s None r → (h : ℕ) × IsIn found groups r h × (h ≤ length steps)) → Reached P start edge found groups steps (suc closed)
  closed_more targets = record {
    are_steps = e.are_steps;
    count = e.count;
    states = e.states;
    owned = e.owned;
    rising = e.rising;
    in_last = λ i g l h. e.in_last i g (omega arith) h;
    reached = e.reached;
    silent = λ i g s r l at in_group goes. by i g s r l at in_group goes (cases_eq i closed);
  }
    where
      by : (i g : ℕ) (s r : S) → i < suc closed → slice_get found i ≡ Some s → slice_get groups i ≡ Some g → edge s None r → (i ≡ closed) ⊎ (i ≡ closed → ⊥) → (h : ℕ) × IsIn found groups r h × (h ≤ g)
      by i g s r l at in_group goes (inr other) = e.silent i g s r (omega arith) at in_group goes
      by i g s r l at in_group goes (inl same) =
          let to = targets s r (subst (λ j. slice_get found j ≡ Some s) same at) goes in
          let group : g ≡ length steps = e.in_last i g (omega arith) in_group in
          (to.0, to.1, (let m = to.2 in omega arith))

-- one more step from a group
module _ {steps : List (ℕ × ℕ)} (are : AreSteps steps) {from letter : ℕ} (within : from ≤ length steps) (bounded : IsBounded steps from letter) where
  module _ (fresh : IsLast steps from letter → ⊥) where
    earlier : (k p b : ℕ) → slice_get steps k ≡ Some (p, b) → IsEarlier (p, b) from letter
    earlier k p b at = by (cases_eq (suc k) (length steps)) (bounded k p b at)
      where
        by : (suc k ≡ length steps) ⊎ (suc k ≡ length steps → ⊥) → (p < from) ⊎ ((p ≡ from) × (b ≤ letter)) → IsEarlier (p, b) from letter
        by place (inl less) = inl less
        by (inl is_last) (inr (same, le)) = elim (cases_eq b letter) [
          | inl letter_is ↦ absurd (fresh (k, is_last, at ∙ ap (λ (x : ℕ × ℕ). Some x) (ap (λ x. (x, b)) same ∙ ap (λ y. (from, y)) letter_is)))
          | inr other ↦ inr (same, omega arith)
        ]
        by (inr before) (inr (same, le)) =
            let l : k < length steps = slice_get_within steps k (p, b) at in
            let one : k + 1 < length steps = omega arith in
            let final = slice_get-some steps (k + 1) one in
            elim (are.ordered k (k + 1) (p, b) final.0 (omega arith) at final.1) [
              | inl less ↦ elim (bounded (k + 1) final.0.0 final.0.1 final.1) [ inl m ↦ inl (omega arith) | inr m ↦ inl (let n = m.0 in omega arith) ]
              | inr more ↦ elim (bounded (k + 1) final.0.0 final.0.1 final.1) [
                | inl m ↦ inl (let n = more.0 in omega arith)
                | inr m ↦ inr (same, (let n = more.1 in let o = m.1 in omega arith))
              ]
            ]

    pub steps_pushed : AreSteps (steps ++ (from, letter) ∷ [])
    steps_pushed = record {
      back = λ k e h. back k e (slice_get-push_cases steps (from, letter) e k h);
      ordered = λ j k d e l x y. ordered j k d e l (slice_get-push_cases steps (from, letter) d j x) (slice_get-push_cases steps (from, letter) e k y);
    }
      where
        back : (k : ℕ) (e : ℕ × ℕ) → (slice_get steps k ≡ Some e) ⊎ ((k ≡ length steps) × ((from, letter) ≡ e)) → e.0 ≤ k
        back k e (inl old) = are.back k e old
        back k e (inr new) = let x = new.0 in let y : from ≡ e.0 = ap (λ (x : ℕ × ℕ). x.0) new.1 in omega arith

        ordered : (j k : ℕ) (d e : ℕ × ℕ) → j < k → (slice_get steps j ≡ Some d) ⊎ ((j ≡ length steps) × ((from, letter) ≡ d))
            → (slice_get steps k ≡ Some e) ⊎ ((k ≡ length steps) × ((from, letter) ≡ e)) → IsEarlier d e.0 e.1
        ordered j k d e l (inl x) (inl y) = are.ordered j k d e l x y
        ordered j k d e l (inl x) (inr y) = subst (λ (z : ℕ × ℕ). IsEarlier d z.0 z.1) y.1 (earlier j d.0 d.1 x)
        ordered j k d e l (inr x) (inl y) = absurd (let m = slice_get_within steps k e y in let n = x.0 in omega arith)
        ordered j k d e l (inr x) (inr y) = absurd (let m = x.0 in let n = y.0 in omega arith)

  -- what the steps are when the step is the last
  pub record Stepped (more : List (ℕ × ℕ)) : Type 0 where
    pub are_steps : AreSteps (steps ++ more)
    pub above : from < length (steps ++ more)
    pub bounded_still : IsBounded (steps ++ more) from letter
    pub not_after : IsNotAfter (steps ++ more) (length (steps ++ more)) from letter
    pub spells : (u : List ℕ) → Spells (steps ++ more) u (length (steps ++ more)) → (v : List ℕ) × (u ≡ letter ∷ v) × Spells steps v from

  stepped_by : (more : List (ℕ × ℕ)) → AreSteps (steps ++ more) → IsBounded (steps ++ more) from letter → IsLast (steps ++ more) from letter → Stepped more
  stepped_by more are_more bounded_more (k, is_last, at) = record {
    are_steps = are_more;
    above = (let b = are_more.back k (from, letter) at in omega arith);
    bounded_still = bounded_more;
    not_after = inr (k, sym is_last, from, letter, at, inr (refl, omega arith));
    spells = λ u h. by u (subst (Spells (steps ++ more) u) (sym is_last) h);
  }
    where
      by : (u : List ℕ) → Spells (steps ++ more) u (suc k) → (v : List ℕ) × (u ≡ letter ∷ v) × Spells steps v from
      by [] h = absurd (let z : suc k ≡ 0 = h in omega arith)
      by (a ∷ v) (p, there, rest) =
          let same : (p, a) ≡ (from, letter) = same_Some (p, a) (from, letter) (sym there ∙ at) in
          let group : p ≡ from = ap (λ (x : ℕ × ℕ). x.0) same in
          let letter_is : a ≡ letter = ap (λ (x : ℕ × ℕ). x.1) same in
          (v, ap (λ x. x ∷ v) letter_is, spells_append steps more are v from within (subst (Spells (steps ++ more) v) group rest))

  pub stepped : (new : List (ℕ × ℕ)) → HasLastStep steps new from letter → (more : List (ℕ × ℕ)) × (new ≡ steps ++ more) × Stepped more
  stepped new (inl (same, is_last)) =
      let whole : steps ++ [] ≡ steps = append-nil steps in
      ([], same ∙ sym whole, stepped_by [] (subst AreSteps (sym whole) are) (subst (λ k. IsBounded k from letter) (sym whole) bounded) (subst (λ k. IsLast k from letter) (sym whole) is_last))
  stepped new (inr (pushed, fresh)) = (
    (from, letter) ∷ [],
    pushed,
    stepped_by ((from, letter) ∷ []) (steps_pushed fresh) (λ k p b at. by k p b (slice_get-push_cases steps (from, letter) (p, b) k at))
        (length steps, (let l = length-append steps ((from, letter) ∷ []) in omega arith), slice_get-push steps (from, letter)),
  )
    where
      by : (k p b : ℕ) → (slice_get steps k ≡ Some (p, b)) ⊎ ((k ≡ length steps) × (◌≡◌ {A = ℕ × ℕ} (from, letter) (p, b))) → (p < from) ⊎ ((p ≡ from) × (b ≤ letter))
      by k p b (inl old) = bounded k p b old
      by k p b (inr added) = inr (sym (ap (λ (x : ℕ × ℕ). x.0) added.1), (let l : letter ≡ b = ap (λ (x : ℕ × ℕ). x.1) added.1 in omega arith))

  -- a group that was there is not after the step
  pub not_after_bounded : (h : ℕ) → h ≤ length steps → IsNotAfter steps h from letter
  not_after_bounded zero l = inl refl
  not_after_bounded (suc k) l =
      let e = slice_get-some steps k (omega arith) in
      inr (k, refl, e.0.0, e.0.1, e.1, bounded k e.0.0 e.0.1 e.1)

-- a state that is found by a step
module _ {S : Type 0} {P start : S → Type 0} {edge : S → Option ℕ → S → Type 0} {found : List S} {groups : List ℕ} {steps : List (ℕ × ℕ)}
    (e : Reached P start edge found groups steps (length found)) (from letter : ℕ) (within : from ≤ length steps) (bounded : IsBounded steps from letter)
    (s : S) (valid : P s) (source : (t : S) × IsIn found groups t from × edge t (Some letter) s) where
  module _ (new_steps : List (ℕ × ℕ)) (last : HasLastStep steps new_steps from letter) where
    more : (x : List (ℕ × ℕ)) × (new_steps ≡ steps ++ x) × Stepped {steps = steps} e.are_steps {from = from} {letter = letter} within bounded x
    more = stepped e.are_steps within bounded new_steps last

    in_last : (i g : ℕ) → length found ≤ i → slice_get groups i ≡ Some g → g ≡ length (steps ++ more.0)
    in_last i g l at = absurd (let m = slice_get_within groups i g at in let c = e.count in omega arith)

    is_reached : (u : List ℕ) → Spells (steps ++ more.0) u (length (steps ++ more.0)) → IsReached start edge s (reverse u)
    is_reached u spells =
        let v = more.2.spells u spells in
        subst (λ x. IsReached start edge s (reverse x)) (sym v.1) (reached_by start edge source.0 s letter v.0 (e.reached source.0 from source.1 v.0 v.2) source.2)

    pub record Found (new : List S) (new_groups : List ℕ) : Type 0 where
      pub reached : Reached P start edge new new_groups new_steps (length found)
      pub extends : Extends found groups steps new new_groups new_steps (suc from)
      pub above : suc from ≤ length new_steps
      pub bounded_still : IsBounded new_steps from letter
      pub there : IsIn new new_groups s (length new_steps)
      pub not_after : IsNotAfter new_steps (length new_steps) from letter

    pub found_new : (new : List S) (new_groups : List ℕ) → new ≡ found ++ s ∷ [] → new_groups ≡ groups ++ length new_steps ∷ [] → Found new new_groups
    found_new new new_groups added group_added =
        subst (λ xs. Found xs new_groups) (sym added)
        (subst (λ ys. Found (found ++ s ∷ []) ys) (sym group_added)
        (record {
          reached = subst (λ k. Reached P start edge (found ++ s ∷ []) (groups ++ length k ∷ []) k (length found)) (sym more.1)
              (grown e (omega arith) more.0 more.2.are_steps in_last s valid is_reached);
          extends = subst (λ k. Extends found groups steps (found ++ s ∷ []) (groups ++ length k ∷ []) k (suc from)) (sym more.1)
              (extends-weaker (grown_extends e (omega arith) more.0 more.2.are_steps in_last s valid is_reached) (let a = more.2.above in omega arith));
          above = subst (λ k. suc from ≤ length k) (sym more.1) (let a = more.2.above in omega arith);
          bounded_still = subst (λ k. IsBounded k from letter) (sym more.1) more.2.bounded_still;
          there = subst (λ k. IsIn (found ++ s ∷ []) (groups ++ length k ∷ []) s (length k)) (sym more.1)
              (grown_in e (omega arith) more.0 more.2.are_steps in_last s valid is_reached);
          not_after = subst (λ k. IsNotAfter k (length k) from letter) (sym more.1) more.2.not_after;
        }))

  -- one that was found before
  pub found_old : (i : ℕ) → slice_get found i ≡ Some s → (h : ℕ) × IsIn found groups s h × IsNotAfter steps h from letter
  found_old i at =
      let group = slice_get-some groups i (let l = slice_get_within found i s at in let c = e.count in omega arith) in
      (group.0, (i, at, group.1), not_after_bounded e.are_steps within bounded group.0 (e.owned i group.0 group.1))

-- all steps of a group were taken
module _ {S : Type 0} {P start : S → Type 0} {edge : S → Option ℕ → S → Type 0} {goal : S → Bool} {found new : List S} {groups new_groups : List ℕ} {steps new_steps : List (ℕ × ℕ)} {from : ℕ}
    (count : length groups ≡ length found) (d : Done start edge goal found groups steps from) {pending : List (ℕ × S)} (are : AreStepsOf P edge goal found groups from pending)
    (x : Extends found groups steps new new_groups new_steps (suc from))
    (taken : (a : ℕ) (r : S) → Contains pending (a, r) → (h : ℕ) × IsIn new new_groups r h × IsNotAfter new_steps h from a) where
  old_one : (s : S) (g : ℕ) → IsIn new new_groups s g → g < suc from → IsIn found groups s g
  old_one s g there l = in_old x count s g there l

  pub done_more : Done start edge goal new new_groups new_steps (suc from)
  done_more = record {
    starts = λ s begins. in_kept x s 0 (d.starts s begins);
    done = λ s r g a there l goes. done s r g a (old_one s g there l) l goes (cases_eq g from);
    inside = λ s g there l. inside s g (old_one s g there l) l (cases_eq g from);
  }
    where
      done : (s r : S) (g a : ℕ) → IsIn found groups s g → g < suc from → edge s (Some a) r → (g ≡ from) ⊎ (g ≡ from → ⊥) → (h : ℕ) × IsIn new new_groups r h × IsNotAfter new_steps h g a
      done s r g a there l goes (inl same) =
          let to = taken a r (are.all s r a (subst (IsIn found groups s) same there) goes) in
          (to.0, to.1, subst (λ k. IsNotAfter new_steps to.0 k a) (sym same) to.2)
      done s r g a there l goes (inr other) =
          let to = d.done s r g a there (omega arith) goes in
          (to.0, in_kept x r to.0 to.1, not_after_kept x to.0 g a to.2)

      inside : (s : S) (g : ℕ) → IsIn found groups s g → g < suc from → (g ≡ from) ⊎ (g ≡ from → ⊥) → goal s ≡ false
      inside s g there l (inl same) = are.no_goal s (subst (IsIn found groups s) same there)
      inside s g there l (inr other) = d.inside s g there (omega arith)
