-- Lists of the states of each class.
use Rattle.std.proofs.Common.{◌≡◌, ◌+◌, ◌<◌, ◌≤◌, ◌⊎◌, ℕ, zero, suc, Bool, true, false, cond, Vec, List, [], ◌∷◌, ◌++◌, Some, Contains, length, slice_index, slice_get, get_or, set, refl, sym, ap, subst, ◌∙◌, inl, inr, arith}
use Rattle.std.proofs.lemmas.Bool.{cases_eq, cases_lt}
use Rattle.std.proofs.lemmas.List.{length-set, get_or_past, get_or-set_same, get_or-set_other}
use Rattle.std.proofs.lemmas.List.Elements.{Contains-push, Contains-append_left}
use Rattle.std.proofs.lemmas.Option.{slice_get-get_or, slice_get_within, get_or_from_slice_get}
use Rattle.std.specs.List.{filter}
use Rattle.word_automata.proofs.ForCallers.{Contains-cases, Contains-here, Contains-there, Contains-none}
use Rattle.minimise.specs.Refinement.{HasLeastStates}
use Rattle.minimise.specs.private.Splitters.{IsListed, AreListed, KeepsMembers}

module _ {A : Type 0} (lists : List (Vec ℕ A)) (to state : ℕ) (list more : Vec ℕ A)
    (within : to < length lists) (list_is : list ≡ get_or lists to list) (grown : more.items ≡ list.items ++ state ∷ []) where
  replaced : slice_get (set lists to more) to ≡ Some more
  replaced = slice_get-get_or (set lists to more) to more (let e = length-set lists to more in omega arith) ∙ ap Some (get_or-set_same lists to more more within)

  pub listed_here : IsListed (set lists to more) to state
  listed_here = (more, replaced, subst (λ xs. Contains xs state) (sym grown) (Contains-push list.items state))

  pub listed_kept : (r p : ℕ) → IsListed lists r p → IsListed (set lists to more) r p
  listed_kept r p (other, at, member) = by (cases_eq r to)
    where
      by : (r ≡ to) ⊎ (r ≡ to → ⊥) → IsListed (set lists to more) r p
      by (inl e) =
          let same : list ≡ other = list_is ∙ get_or_from_slice_get lists to other list (subst (λ x. slice_get lists x ≡ Some other) e at) in
          subst (λ x. IsListed (set lists to more) x p) (sym e)
          (more, replaced, subst (λ xs. Contains xs p) (sym grown) (Contains-append_left list.items (state ∷ []) p (subst (λ (v : Vec ℕ A). Contains v.items p) (sym same) member)))
      by (inr ne) = (
        other,
        slice_get-get_or (set lists to more) r other (let e = length-set lists to more in let w = slice_get_within lists r other at in omega arith)
            ∙ ap Some (get_or-set_other lists to r more other ne ∙ get_or_from_slice_get lists r other other at),
        member,
      )

-- a list that keeps the states of its class is put in its place
module _ {A : Type 0} (classes : List ℕ) (lists : List (Vec ℕ A)) (class : ℕ) (list less : Vec ℕ A)
    (within : class < length lists) (list_is : list ≡ get_or lists class list) (keeps : KeepsMembers classes class list.items less.items) (listed : AreListed classes lists) where
  pub listed_less : AreListed classes (set lists class less)
  listed_less q = by (listed q) (cases_eq (slice_index classes q) class)
    where
      by : (slice_index classes q ≡ 0) ⊎ IsListed lists (slice_index classes q) q → (slice_index classes q ≡ class) ⊎ (slice_index classes q ≡ class → ⊥)
          → (slice_index classes q ≡ 0) ⊎ IsListed (set lists class less) (slice_index classes q) q
      by (inl none) other = inl none
      by (inr (old, at, member)) (inl e) =
          let same : list ≡ old = list_is ∙ get_or_from_slice_get lists class old list (subst (λ x. slice_get lists x ≡ Some old) e at) in
          inr (subst (λ x. IsListed (set lists class less) x q) (sym e) (
            less,
            slice_get-get_or (set lists class less) class less (let l = length-set lists class less in omega arith) ∙ ap Some (get_or-set_same lists class less less within),
            keeps q (subst (λ (v : Vec ℕ A). Contains v.items q) (sym same) member) e,
          ))
      by (inr (old, at, member)) (inr ne) = inr (
        old,
        slice_get-get_or (set lists class less) (slice_index classes q) old (let l = length-set lists class less in let w = slice_get_within lists (slice_index classes q) old at in omega arith)
            ∙ ap Some (get_or-set_other lists class (slice_index classes q) less old ne ∙ get_or_from_slice_get lists (slice_index classes q) old old at),
        member,
      )

  -- and has all of them
  pub members_less : (class ≡ 0 → ⊥) → (q : ℕ) → slice_index classes q ≡ class → Contains less.items q
  members_less some q e = elim (listed q) [
    | inl none ↦ absurd (some (sym e ∙ none))
    | inr (old, at, member) ↦
        let same : list ≡ old = list_is ∙ get_or_from_slice_get lists class old list (subst (λ x. slice_get lists x ≡ Some old) e at) in
        keeps q (subst (λ (v : Vec ℕ A). Contains v.items q) (sym same) member) e
  ]

-- the first i states are in the lists of their classes
module _ {A : Type 0} (classes : List ℕ) (lists : List (Vec ℕ A)) (i : ℕ) (below : (q : ℕ) → q < i → (slice_index classes q ≡ 0) ⊎ IsListed lists (slice_index classes q) q) where
  pub members_same : slice_index classes i ≡ 0 → (q : ℕ) → q < i + 1 → (slice_index classes q ≡ 0) ⊎ IsListed lists (slice_index classes q) q
  members_same none q l = elim (cases_lt q i) [
    | inl less ↦ below q less
    | inr later ↦ let e : q ≡ i = omega arith in inl (ap (slice_index classes) e ∙ none)
  ]

  pub members_more : (to : ℕ) (list more : Vec ℕ A) → to ≡ slice_index classes i → to < length lists → list ≡ get_or lists to list → more.items ≡ list.items ++ i ∷ []
      → (q : ℕ) → q < i + 1 → (slice_index classes q ≡ 0) ⊎ IsListed (set lists to more) (slice_index classes q) q
  members_more to list more is within list_is grown q l = elim (cases_lt q i) [
    | inl less ↦ elim (below q less) [
      | inl none ↦ inl none
      | inr old ↦ inr (listed_kept lists to i list more within list_is grown (slice_index classes q) q old)
    ]
    | inr later ↦
        let e : i ≡ q = omega arith in
        inr (subst (λ x. IsListed (set lists to more) (slice_index classes x) x) e
        (subst (λ x. IsListed (set lists to more) x i) is (listed_here lists to i list more within list_is grown)))
  ]

-- numbers of classes are at most that of the states
pub class_le : (classes : List ℕ) → HasLeastStates classes → (q : ℕ) → slice_index classes q ≤ length classes
class_le classes least q = by (slice_index classes q) refl
  where
    by : (c : ℕ) → slice_index classes q ≡ c → slice_index classes q ≤ length classes
    by zero e = omega arith
    by (suc r) e = elim (cases_lt q (length classes)) [
      | inl there ↦ let l = least q r e in let b = l.0 in omega arith
      | inr past ↦ absurd (let z = get_or_past classes q 0 past in omega arith)
    ]

-- a filter keeps what passes
pub Contains-filter : (test : ℕ → Bool) (xs : List ℕ) (x : ℕ) → Contains xs x → test x ≡ true → Contains (filter test xs) x
Contains-filter test [] x there passes = absurd (Contains-none x there)
Contains-filter test (y ∷ xs) x there passes = elim (Contains-cases y xs x there) [
  | inl here ↦
      let e : test y ≡ true = ap test here ∙ passes in
      subst (λ b. Contains (cond b (y ∷ filter test xs) (filter test xs)) x) (sym e) (subst (λ z. Contains (z ∷ filter test xs) x) (sym here) (Contains-here (filter test xs) x))
  | inr rest ↦ by (test y) (Contains-filter test xs x rest passes)
]
  where
    by : (b : Bool) → Contains (filter test xs) x → Contains (cond b (y ∷ filter test xs) (filter test xs)) x
    by true inside = Contains-there y (filter test xs) x inside
    by false inside = inside
