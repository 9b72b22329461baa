-- The first states of classes, state by state.
use Rattle.std.proofs.Common.{◌≡◌, ◌≢◌, ◌↔◌, ◌<◌, ◌≤◌, ◌+◌, ◌-◌, ◌⊎◌, ℕ, zero, suc, List, [], ◌∷◌, ◌++◌, Option, None, Some, length, slice_index, slice_get, get_or, set, refl, sym, ap, subst, ◌∙◌, inl, inr, arith, length-append}
use Rattle.std.proofs.lemmas.Bool.{cases_eq, cases_lt}
use Rattle.std.proofs.lemmas.List.{get_or_append_left, get_or_push, get_or_past, get_or-set_same, get_or-set_other, get_or-replicate, length-replicate}
use Rattle.std.proofs.lemmas.Option.{slice_get-get_or, slice_get_within, same_Some}
use Rattle.std.specs.Prelude.{replicate}
use Rattle.word_automata.specs.Automaton.{Automaton}
use Rattle.abstraction.specs.ClassAutomata.{IsKnownFirst, IsNewFirst, AreTargetsOf, before, known_at}
use Rattle.abstraction.specs.FirstStates.{AreFirsts}

-- the states before i have the first states of their classes, which are known
pub record HasFirsts (known : ℕ → Option ℕ) (classes firsts : List ℕ) (i : ℕ) : Type 0 where
  pub count : length firsts ≡ i
  pub found : (class first : ℕ) → known class ≡ Some first → (first < i) × (get_or classes first 0 ≡ class)
  pub least : (class first q : ℕ) → known class ≡ Some first → q < first → get_or classes q 0 ≢ class
  pub done : (p : ℕ) → p < i → known (get_or classes p 0) ≡ Some (get_or firsts p 0)

pub has_firsts_none : (known : ℕ → Option ℕ) (classes firsts : List ℕ) → ((c : ℕ) → known c ≡ None) → firsts ≡ [] → HasFirsts known classes firsts 0
has_firsts_none known classes firsts none empty = record {
  count = ap length empty;
  found = λ class first h. let n = none class in cc;
  least = λ class first q h before same. let n = none class in cc;
  done = λ p l. absurd (omega arith);
}

module _ (known more : ℕ → Option ℕ) (classes firsts : List ℕ) (i first : ℕ) (before : HasFirsts known classes firsts i) where
  keep : ((c x : ℕ) → known c ≡ Some x → more c ≡ Some x) → more (get_or classes i 0) ≡ Some first → (p : ℕ) → p < i + 1 → more (get_or classes p 0) ≡ Some (get_or (firsts ++ first ∷ []) p 0)
  keep keeps here p below = elim (cases_eq p i) [
    | inl same ↦ subst (λ r. more (get_or classes r 0) ≡ Some (get_or (firsts ++ first ∷ []) r 0)) (sym same) (here ∙ ap (λ (x : ℕ). Some x) (sym (get_or_push firsts first 0 i before.count)))
    | inr other ↦
        let earlier : p < i = omega arith in
        keeps (get_or classes p 0) (get_or firsts p 0) (before.done p earlier)
        ∙ ap (λ (x : ℕ). Some x) (sym (get_or_append_left firsts (first ∷ []) 0 p (let e = before.count in omega arith)))
  ]

  longer : length (firsts ++ first ∷ []) ≡ i + 1
  longer = let e = before.count in let a = length-append firsts (first ∷ []) in omega arith

  pub has_firsts_more : IsKnownFirst known more (get_or classes i 0) first ⊎ IsNewFirst known more (get_or classes i 0) i first → HasFirsts more classes (firsts ++ first ∷ []) (i + 1)
  has_firsts_more (inl f) = record {
    count = longer;
    found = λ class x h. let y = before.found class x (sym (f.same class) ∙ h) in (let l = y.0 in omega arith, y.1);
    least = λ class x q h. before.least class x q (sym (f.same class) ∙ h);
    done = keep (λ c x h. f.same c ∙ h) (f.same (get_or classes i 0) ∙ f.known);
  }
  has_firsts_more (inr f) = record {
    count = longer;
    found = λ class x h. elim (cases_eq (get_or classes i 0) class) [
      | inl same ↦
          let last : i ≡ x = same_Some i x (sym (subst (λ c. more c ≡ Some i) same f.added) ∙ h) in
          (omega arith, subst (λ r. get_or classes r 0 ≡ class) last same)
      | inr other ↦ let y = before.found class x (sym (f.same class other) ∙ h) in (let l = y.0 in omega arith, y.1)
    ];
    least = λ class x q h earlier. elim (cases_eq (get_or classes i 0) class) [
      | inl same ↦ λ equal.
          let last : i ≡ x = same_Some i x (sym (subst (λ c. more c ≡ Some i) same f.added) ∙ h) in
          let had : known (get_or classes q 0) ≡ Some (get_or firsts q 0) = before.done q (omega arith) in
          let unknown : known (get_or classes q 0) ≡ None = subst (λ c. known c ≡ None) (same ∙ sym equal) f.unknown in
          cc
      | inr other ↦ before.least class x q (sym (f.same class other) ∙ h) earlier
    ];
    done = keep (λ c x h. f.same c (λ same. let u = subst (λ d. known d ≡ None) same f.unknown in cc) ∙ h) (f.added ∙ ap (λ (x : ℕ). Some x) (sym f.first_is));
  }

pub has_firsts_all : (known : ℕ → Option ℕ) (classes firsts : List ℕ) → HasFirsts known classes firsts (length classes) → AreFirsts classes firsts
has_firsts_all known classes firsts all = record {
  count = all.count;
  in_class = λ p there.
      let is = all.found (get_or classes p 0) (get_or firsts p 0) (all.done p there) in
      slice_get-get_or classes (get_or firsts p 0) 0 is.0 ∙ ap (λ (x : ℕ). Some x) is.1 ∙ sym (slice_get-get_or classes p 0 there);
  none_before = λ p q there earlier same.
      let is = all.found (get_or classes p 0) (get_or firsts p 0) (all.done p there) in
      let at_q = slice_get-get_or classes q 0 (let l = is.0 in omega arith) in
      all.least (get_or classes p 0) (get_or firsts p 0) q (all.done p there) earlier
      (same_Some (get_or classes q 0) (get_or classes p 0) (sym at_q ∙ same ∙ slice_get-get_or classes p 0 there));
}

module _ (classes firsts : List ℕ) (are : AreFirsts classes firsts) where
  -- a first state is one of the states
  pub first_within : (p : ℕ) → p < length classes → slice_index firsts p < length classes
  first_within p there = slice_get_within classes (slice_index firsts p) (get_or classes p 0) (are.in_class p there ∙ slice_get-get_or classes p 0 there)

  -- first states are equal exactly where the classes are
  pub first_same : (p q : ℕ) → p < length classes → q < length classes
      → (slice_index firsts p ≡ slice_index firsts q) ↔ (slice_get classes p ≡ slice_get classes q)
  first_same p q lp lq = (
    λ same. sym (are.in_class p lp) ∙ ap (slice_get classes) same ∙ are.in_class q lq,
    λ same. elim (cases_lt (slice_index firsts p) (slice_index firsts q)) [
      | inl less ↦ absurd (are.none_before q (slice_index firsts p) lq less (are.in_class p lp ∙ same))
      | inr not_less ↦ elim (cases_lt (slice_index firsts q) (slice_index firsts p)) [
        | inl more ↦ absurd (are.none_before p (slice_index firsts q) lp more (are.in_class q lq ∙ sym same))
        | inr not_more ↦ omega arith
      ]
    ],
  )

-- there is a first state for each state of an automaton
pub targets_of : (a : Automaton) (classes firsts : List ℕ) → length classes ≡ length a.states → AreFirsts classes firsts → AreTargetsOf a firsts
targets_of a classes firsts count are = record {
  count = are.count ∙ count;
  within = λ p there. let within = first_within classes firsts are p (omega arith) in omega arith;
}

-- a table of zeros knows nothing
pub known_none : (places : ℕ) (table : List ℕ) → table ≡ replicate places 0 → (c : ℕ) → known_at table c ≡ None
known_none places table is c = elim (cases_lt c places) [
  | inl there ↦ ap before (ap (λ xs. get_or xs c 0) is ∙ get_or-replicate places c 0 0 there)
  | inr past ↦ ap before (ap (λ xs. get_or xs c 0) is ∙ get_or_past (replicate places 0) c 0 (subst (λ n. n ≤ c) (sym (length-replicate places 0)) past))
]

-- what stands above 0 is known
known_some : (n : ℕ) → 0 < n → before n ≡ Some (n - 1)
known_some zero above = absurd (omega arith)
known_some (suc n) above = ap (λ (x : ℕ). Some x) {x = n} {y = suc n - 1} (omega arith)

module _ (table : List ℕ) (class first : ℕ) (read : get_or table class 0 ≡ first) where
  pub is_known_first : 0 < first → IsKnownFirst (known_at table) (known_at table) class (first - 1)
  is_known_first above = record {
    known = ap before read ∙ known_some first above;
    same = λ c. refl;
  }

  pub is_new_first : (state : ℕ) → class < length table → first ≡ 0 → IsNewFirst (known_at table) (known_at (set table class (state + 1))) class state state
  is_new_first state there none = record {
    unknown = ap before (read ∙ none);
    first_is = refl;
    added = ap before (get_or-set_same table class (state + 1) 0 there) ∙ known_some (state + 1) (omega arith) ∙ ap (λ (x : ℕ). Some x) {x = state + 1 - 1} {y = state} (omega arith);
    same = λ c other. ap before (get_or-set_other table class c (state + 1) 0 (λ same. other (sym same)));
  }
