-- Extents of marks, found from the left.
use Rattle.std.proofs.Common.{◌≡◌, ◌⊎◌, inl, inr, ℕ, zero, suc, ◌+◌, ◌<◌, ◌≤◌, min, Bool, true, false, List, [], ◌∷◌, ◌++◌, length, refl, ap, sym, ◌∙◌, ◌||◌, nat_lt, arith, take, drop, get_or}
use Rattle.std.proofs.lemmas.List.{length-take-le, take_more, take_all, drop_all, drop-append-le}
use Rattle.std.proofs.lemmas.Bool.{cases_lt, lt-ltb, le-ltb}
use Rattle.std.proofs.lemmas.List.Folds.{list_any-append}
use Rattle.std.proofs.Math.Bool.{or-true, or-false}
use Rattle.protocol_moves.specs.private.Extents.{is_marked, IsExtent}

-- the marks before k have this extent
pub record IsExtentTo (marks : List Bool) (k first last : ℕ) : Type 0 where
  pub before : (i : ℕ) → i ≤ k → is_marked (take i marks) ≡ nat_lt first i
  pub after : (i : ℕ) → i < k → is_marked (drop (i + 1) (take k marks)) ≡ nat_lt i last
  pub first_in : (first < k) ⊎ (first ≡ length marks)
  pub last_in : last ≤ k

pub no_marks_yet : (marks : List Bool) → IsExtentTo marks 0 (length marks) 0
no_marks_yet marks =
    record {
      before = λ i h. none i h;
      after = λ i h. absurd (omega arith);
      first_in = inr refl;
      last_in = omega arith;
    }
  where
    none : (i : ℕ) → i ≤ 0 → is_marked (take i marks) ≡ nat_lt (length marks) i
    none zero h = grind arith
    none (suc i) h = absurd (omega arith)

or_mark : (b mark : Bool) → (b || (mark || false)) ≡ (b || mark)
or_mark b mark = grind arith

take_mark : (marks : List Bool) (k : ℕ) → k < length marks → (mark : Bool) → get_or marks k false ≡ mark →
    take (k + 1) marks ≡ take k marks ++ mark ∷ []
take_mark marks k l mark e = take_more marks k false l ∙ ap (λ m. take k marks ++ m ∷ []) e

before_more : (marks : List Bool) (k : ℕ) → k < length marks → (mark : Bool) → get_or marks k false ≡ mark →
    is_marked (take (k + 1) marks) ≡ (is_marked (take k marks) || mark)
before_more marks k l mark e =
    ap is_marked (take_mark marks k l mark e)
    ∙ list_any-append (λ m. m) (take k marks) (mark ∷ [])
    ∙ or_mark (is_marked (take k marks)) mark

after_more : (marks : List Bool) (i k : ℕ) → i < k → k < length marks → (mark : Bool) → get_or marks k false ≡ mark →
    is_marked (drop (i + 1) (take (k + 1) marks)) ≡ (is_marked (drop (i + 1) (take k marks)) || mark)
after_more marks i k h l mark e =
    ap (λ ms. is_marked (drop (i + 1) ms)) (take_mark marks k l mark e)
    ∙ ap is_marked (drop-append-le (i + 1) (take k marks) (mark ∷ []) (omega (arith, length-take-le k marks (omega arith))))
    ∙ list_any-append (λ m. m) (drop (i + 1) (take k marks)) (mark ∷ [])
    ∙ or_mark (is_marked (drop (i + 1) (take k marks))) mark

after_last : (marks : List Bool) (k : ℕ) → k < length marks → is_marked (drop (k + 1) (take (k + 1) marks)) ≡ false
after_last marks k h = ap is_marked (drop_all (k + 1) (take (k + 1) marks) (omega (arith, length-take-le (k + 1) marks (omega arith))))

lt_true : (a b : ℕ) → a < b → nat_lt a b ≡ true
lt_true a b h = lt-ltb a b h

lt_false : (a b : ℕ) → b ≤ a → nat_lt a b ≡ false
lt_false a b h = le-ltb a b h

lt_min : (a k i : ℕ) → i ≤ k → nat_lt a i ≡ nat_lt (min a k) i
lt_min a k i h = elim (cases_lt a i) [
  | inl less ↦ lt_true a i less ∙ sym (lt_true (min a k) i (omega arith))
  | inr more ↦ lt_false a i more ∙ sym (lt_false (min a k) i (omega arith))
]

-- the mark at k is set
pub more_marks : (marks : List Bool) (k first last : ℕ) → k < length marks → get_or marks k false ≡ true →
    IsExtentTo marks k first last → IsExtentTo marks (k + 1) (min first k) k
more_marks marks k first last h mark e =
    record {
      before = λ i l. elim (cases_lt i (k + 1)) [
        | inl old ↦ e.before i (omega arith) ∙ lt_min first k i (omega arith)
        | inr now ↦
            let is : i ≡ k + 1 = omega arith in
            rw is (before_more marks k h true mark ∙ or-true (is_marked (take k marks)) ∙ sym (lt_true (min first k) (k + 1) (omega arith)))
      ];
      after = λ i l. elim (cases_lt i k) [
        | inl old ↦ after_more marks i k old h true mark ∙ or-true (is_marked (drop (i + 1) (take k marks))) ∙ sym (lt_true i k old)
        | inr now ↦
            let is : i ≡ k = omega arith in
            rw is (after_last marks k h ∙ sym (lt_false k k (omega arith)))
      ];
      first_in = inl (omega arith);
      last_in = omega arith;
    }

-- the mark at k is not set
pub no_more_marks : (marks : List Bool) (k first last : ℕ) → k < length marks → get_or marks k false ≡ false →
    IsExtentTo marks k first last → IsExtentTo marks (k + 1) first last
no_more_marks marks k first last h mark e =
    record {
      before = λ i l. elim (cases_lt i (k + 1)) [
        | inl old ↦ e.before i (omega arith)
        | inr now ↦
            let is : i ≡ k + 1 = omega arith in
            rw is (before_more marks k h false mark ∙ or-false (is_marked (take k marks)) ∙ e.before k (omega arith)
            ∙ first_later first k (length marks) h e.first_in)
      ];
      after = λ i l. elim (cases_lt i k) [
        | inl old ↦ after_more marks i k old h false mark ∙ or-false (is_marked (drop (i + 1) (take k marks))) ∙ e.after i old
        | inr now ↦
            let is : i ≡ k = omega arith in
            rw is (after_last marks k h ∙ sym (lt_false k last e.last_in))
      ];
      first_in = first_on first k (length marks) e.first_in;
      last_in = omega (arith, e.last_in);
    }
  where
    first_later : (first k n : ℕ) → k < n → (first < k) ⊎ (first ≡ n) → nat_lt first k ≡ nat_lt first (k + 1)
    first_later first k n h (inl less) = lt_true first k less ∙ sym (lt_true first (k + 1) (omega arith))
    first_later first k n h (inr is) = lt_false first k (omega arith) ∙ sym (lt_false first (k + 1) (omega arith))

    first_on : (first k n : ℕ) → (first < k) ⊎ (first ≡ n) → (first < k + 1) ⊎ (first ≡ n)
    first_on first k n (inl less) = inl (omega arith)
    first_on first k n (inr is) = inr is

pub whole_extent : (marks : List Bool) (k first last : ℕ) → k ≡ length marks → IsExtentTo marks k first last → IsExtent marks first last
whole_extent marks k first last h e =
    record {
      before = λ i l. e.before i (omega arith);
      after = λ i l. rw (← take_all k marks (omega arith)) (e.after i (omega arith));
    }
