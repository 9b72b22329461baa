-- Classes that are split by codes: equal codes are those of equal classes and marks.
use Rattle.std.proofs.Common.{◌≡◌, ◌<◌, ◌≤◌, ◌+◌, ◌↔◌, ℕ, Bool, true, false, Some, List, ◌∷◌, [], ◌++◌, get_or, refl, sym, ap, subst, ◌∙◌, inl, inr, arith, length-append}
use Rattle.std.proofs.lemmas.Bool.{cases_eq, cases_lt}
use Rattle.std.proofs.lemmas.List.{get_or_append_left, get_or_push}
use Rattle.std.proofs.lemmas.Option.{slice_get-get_or, same_Some}
use Rattle.abstraction.specs.FirstStates.{AreFirsts}
use Rattle.abstraction.proofs.ForCallers.{first_within, first_same}
use Rattle.predicate_abstraction.specs.private.Pairs.{Pairs}
use Rattle.predicate_abstraction.specs.private.Codes.{with_bit, IsMark, IsCode, AreCodes}
use Rattle.predicate_abstraction.specs.private.Splitting.{HaveSame, HaveSameRows, IsSplitByRows}
use Rattle.predicate_abstraction.proofs.SignatureLaws.{same_test}

-- numbers with one more bit are equal where the numbers and the bits are
same_bits : (x y : ℕ) (m n : Bool) → with_bit x m ≡ with_bit y n → (x ≡ y) × (m ≡ n)
same_bits x y true true e = (omega arith, refl)
same_bits x y false false e = (omega arith, refl)
same_bits x y true false e = absurd (omega arith)
same_bits x y false true e = absurd (omega arith)

-- marks are equal where both columns have the row or neither
module _ (set : Pairs) (row p q : ℕ) (m n : Bool) (of_p : IsMark set row p m) (of_q : IsMark set row q n) where
  pub have_same : m ≡ n → row < set.rows → HaveSame set row p q
  have_same same within = (
    λ h. (of_q.marked within).0 (sym same ∙ (of_p.marked within).1 h),
    λ h. (of_p.marked within).0 (same ∙ (of_q.marked within).1 h),
  )

  same_mark : (row < set.rows → HaveSame set row p q) → m ≡ n
  same_mark same = elim (cases_lt row set.rows) [
    | inl within ↦ same_test m n
        (λ h. (of_q.marked within).1 ((same within).0 ((of_p.marked within).0 h)))
        (λ h. (of_p.marked within).1 ((same within).1 ((of_q.marked within).0 h)))
    | inr past ↦ of_p.none past ∙ sym (of_q.none past)
  ]

-- three rows that both columns have alike
pub three_rows : (set : Pairs) (row p q : ℕ) → (row < set.rows → HaveSame set row p q) → (row + 1 < set.rows → HaveSame set (row + 1) p q)
    → (row + 2 < set.rows → HaveSame set (row + 2) p q) → HaveSameRows set row (row + 3) p q
three_rows set row p q first second third = record {
  same = λ r from below within. elim (cases_eq r row) [
    | inl here ↦ subst (λ k. HaveSame set k p q) (sym here) (first (omega arith))
    | inr later ↦ elim (cases_eq r (row + 1)) [
      | inl here ↦ subst (λ k. HaveSame set k p q) (sym here) (second (omega arith))
      | inr last ↦
          let here : r ≡ row + 2 = omega arith in
          subst (λ k. HaveSame set k p q) (sym here) (third (omega arith))
    ]
  ];
}

-- codes are equal exactly where the classes are, and both columns have the same ones of three rows
module _ (set : Pairs) (row p q x y a b : ℕ) (of_p : IsCode set row p x a) (of_q : IsCode set row q y b) where
  to_marks : a ≡ b → (x ≡ y) × ((r : ℕ) → row ≤ r → r < row + 3 → r < set.rows → HaveSame set r p q)
  to_marks e =
      let third = same_bits (with_bit (with_bit x of_p.first) of_p.second) (with_bit (with_bit y of_q.first) of_q.second) of_p.third of_q.third
      (sym of_p.code_is ∙ e ∙ of_q.code_is) in
      let second = same_bits (with_bit x of_p.first) (with_bit y of_q.first) of_p.second of_q.second third.0 in
      let first = same_bits x y of_p.first of_q.first second.0 in (
        first.0,
        λ r from below within. elim (cases_eq r row) [
          | inl here ↦ have_same set r p q of_p.first of_q.first
              (subst (λ k. IsMark set k p of_p.first) (sym here) of_p.is_first) (subst (λ k. IsMark set k q of_q.first) (sym here) of_q.is_first) first.1 within
          | inr later ↦ elim (cases_eq r (row + 1)) [
            | inl here ↦ have_same set r p q of_p.second of_q.second
                (subst (λ k. IsMark set k p of_p.second) (sym here) of_p.is_second) (subst (λ k. IsMark set k q of_q.second) (sym here) of_q.is_second) second.1 within
            | inr last ↦
                let here : r ≡ row + 2 = omega arith in
                have_same set r p q of_p.third of_q.third
                (subst (λ k. IsMark set k p of_p.third) (sym here) of_p.is_third) (subst (λ k. IsMark set k q of_q.third) (sym here) of_q.is_third) third.1 within
          ]
        ],
      )

  from_marks : (x ≡ y) × ((r : ℕ) → row ≤ r → r < row + 3 → r < set.rows → HaveSame set r p q) → a ≡ b
  from_marks both =
      let first = same_mark set row p q of_p.first of_q.first of_p.is_first of_q.is_first (λ within. both.1 row (omega arith) (omega arith) within) in
      let second = same_mark set (row + 1) p q of_p.second of_q.second of_p.is_second of_q.is_second (λ within. both.1 (row + 1) (omega arith) (omega arith) within) in
      let third = same_mark set (row + 2) p q of_p.third of_q.third of_p.is_third of_q.is_third (λ within. both.1 (row + 2) (omega arith) (omega arith) within) in
      of_p.code_is
      ∙ ap (λ (k : ℕ). with_bit (with_bit (with_bit k of_p.first) of_p.second) of_p.third) both.0
      ∙ ap (λ (m : Bool). with_bit (with_bit (with_bit y m) of_p.second) of_p.third) first
      ∙ ap (λ (m : Bool). with_bit (with_bit (with_bit y of_q.first) m) of_p.third) second
      ∙ ap (λ (m : Bool). with_bit (with_bit (with_bit y of_q.first) of_q.second) m) third
      ∙ sym of_q.code_is

  pub codes_apart : (a ≡ b) ↔ ((x ≡ y) × ((r : ℕ) → row ≤ r → r < row + 3 → r < set.rows → HaveSame set r p q))
  codes_apart = (to_marks, from_marks)

-- one more code

pub codes_more : (set : Pairs) (row : ℕ) (classes codes : List ℕ) (i code : ℕ) → IsCode set row i (get_or classes i 0) code → AreCodes set row classes codes i
    → AreCodes set row classes (codes ++ code ∷ []) (i + 1)
codes_more set row classes codes i code is before = record {
  size = (let l = length-append codes (code ∷ []) in let c = before.size in omega arith);
  each = λ p below. elim (cases_eq p i) [
    | inl same ↦
        subst (λ k. IsCode set row k (get_or classes k 0) (get_or (codes ++ code ∷ []) k 0)) (sym same)
        (subst (IsCode set row i (get_or classes i 0)) (sym (get_or_push codes code 0 i before.size)) is)
    | inr other ↦
        subst (IsCode set row p (get_or classes p 0)) (sym (get_or_append_left codes (code ∷ []) 0 p (let c = before.size in omega arith)))
        (before.each p (omega arith))
  ];
}

-- the first states of codes are the classes that the rows split
pub split_by_codes : (set : Pairs) (row : ℕ) (classes codes firsts : List ℕ) → AreCodes set row classes codes set.columns → AreFirsts codes firsts
    → IsSplitByRows set row (row + 3) classes firsts
split_by_codes set row classes codes firsts has are = record {
  numbers = record {
    count = are.count ∙ has.size;
    below = λ p there. subst (λ n. get_or firsts p 0 < n) has.size (first_within codes firsts are p (let l = has.size in omega arith));
  };
  apart = λ p q lp lq.
      let same = first_same codes firsts are p q (let l = has.size in omega arith) (let l = has.size in omega arith) in
      let at_p = slice_get-get_or codes p 0 (let l = has.size in omega arith) in
      let at_q = slice_get-get_or codes q 0 (let l = has.size in omega arith) in
      let codes_of = codes_apart set row p q (get_or classes p 0) (get_or classes q 0) (get_or codes p 0) (get_or codes q 0) (has.each p lp) (has.each q lq) in (
        λ e. codes_of.0 (same_Some (get_or codes p 0) (get_or codes q 0) (sym at_p ∙ same.0 e ∙ at_q)),
        λ both. same.1 (at_p ∙ ap (λ (x : ℕ). Some x) (codes_of.1 both) ∙ sym at_q),
      );
}
