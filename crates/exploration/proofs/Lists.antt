-- Elements by their places in lists that grow at their ends, and states by their letters.
use Rattle.std.proofs.Common.{◌≡◌, ◌==◌, ◌<◌, ◌⊎◌, ℕ, suc, zero, Bool, true, List, [], ◌∷◌, ◌++◌, None, Some, length, refl, sym, ap, subst, ◌∙◌, inl, inr, arith, slice_get, if◌then◌else◌, All, eq-eqb, ne_eqb, length-append}
use Rattle.std.proofs.lemmas.Bool.{cases_eq, or_left, or_right}
use Rattle.std.proofs.Math.Seq.{get_or-append_seam}
use Rattle.std.proofs.lemmas.List.Elements.{All-nil, All-cons, All-head, All-tail}
use Rattle.std.specs.List.{list_any}
use Rattle.exploration.specs.DeterministicSystem.{look_up, HasIncreasingLetters}

module _ {X : Type 0} where
  -- a place that a list has keeps its element when the list grows
  pub slice_get-append : (xs ys : List X) (i : ℕ) (x : X) → slice_get xs i ≡ Some x → slice_get (xs ++ ys) i ≡ Some x
  slice_get-append [] ys i x h = cc
  slice_get-append (y ∷ xs) ys zero x h = h
  slice_get-append (y ∷ xs) ys (suc i) x h = slice_get-append xs ys i x h

  pub slice_get-push : (xs : List X) (x : X) → slice_get (xs ++ x ∷ []) (length xs) ≡ Some x
  slice_get-push [] x = refl
  slice_get-push (y ∷ xs) x = slice_get-push xs x

  -- an element of a list that grew by one is the new one, at the end, or it was there
  pub slice_get-push_cases : (xs : List X) (x y : X) (i : ℕ) → slice_get (xs ++ x ∷ []) i ≡ Some y → (slice_get xs i ≡ Some y) ⊎ ((i ≡ length xs) × (x ≡ y))
  slice_get-push_cases [] x y zero h = inr (refl, cc)
  slice_get-push_cases [] x y (suc i) h = cc
  slice_get-push_cases (z ∷ xs) x y zero h = inl h
  slice_get-push_cases (z ∷ xs) x y (suc i) h =
      elim (slice_get-push_cases xs x y i h) [ inl there ↦ inl there | inr last ↦ inr (ap suc last.0, last.1) ]

  -- a place below the length has an element
  pub slice_get-some : (xs : List X) (i : ℕ) → i < length xs → (x : X) × (slice_get xs i ≡ Some x)
  slice_get-some [] i h = absurd (omega arith)
  slice_get-some (x ∷ xs) zero h = (x, refl)
  slice_get-some (x ∷ xs) (suc i) h = slice_get-some xs i (omega arith)

  pub list_any_at : (p : X → Bool) (xs : List X) (i : ℕ) (x : X) → slice_get xs i ≡ Some x → p x ≡ true → list_any p xs ≡ true
  list_any_at p [] i x h k = cc
  list_any_at p (y ∷ xs) zero x h k = let e : y ≡ x = cc in or_left (p y) (list_any p xs) (ap p e ∙ k)
  list_any_at p (y ∷ xs) (suc i) x h k = or_right (p y) (list_any p xs) (list_any_at p xs i x h k)

module _ {S : Type 0} where
  pub look_up-here : (pair : ℕ × S) (pairs : List (ℕ × S)) (a : ℕ) → pair.0 ≡ a → look_up (pair ∷ pairs) a ≡ Some pair.1
  look_up-here pair pairs a e = ap (λ b. if b then Some pair.1 else look_up pairs a) (eq-eqb pair.0 a e)

  pub look_up-there : (pair : ℕ × S) (pairs : List (ℕ × S)) (a : ℕ) → (pair.0 ≡ a → ⊥) → look_up (pair ∷ pairs) a ≡ look_up pairs a
  look_up-there pair pairs a e = ap (λ b. if b then Some pair.1 else look_up pairs a) (ne_eqb pair.0 a e)

  -- a letter above all those of the pairs has no state
  pub look_up-above : (pairs : List (ℕ × S)) (a : ℕ) → All (λ pair. pair.0 < a) pairs → look_up pairs a ≡ None
  look_up-above [] a h = refl
  look_up-above (pair ∷ pairs) a h =
      let l = All-head (λ (x : ℕ × S). x.0 < a) pair pairs h in
      look_up-there pair pairs a (λ e. absurd (omega arith)) ∙ look_up-above pairs a (All-tail (λ (x : ℕ × S). x.0 < a) pair pairs h)

  -- nor has a letter below all those of the pairs
  pub look_up-beneath : (pairs : List (ℕ × S)) (a : ℕ) → All (λ pair. a < pair.0) pairs → look_up pairs a ≡ None
  look_up-beneath [] a h = refl
  look_up-beneath (pair ∷ pairs) a h =
      let l = All-head (λ (x : ℕ × S). a < x.0) pair pairs h in
      look_up-there pair pairs a (λ e. absurd (omega arith)) ∙ look_up-beneath pairs a (All-tail (λ (x : ℕ × S). a < x.0) pair pairs h)

  -- a letter that has a state is below any letter that is above all
  pub look_up-below : (pairs : List (ℕ × S)) (a b : ℕ) (s : S) → All (λ pair. pair.0 < a) pairs → look_up pairs b ≡ Some s → b < a
  look_up-below [] a b s h k = cc
  look_up-below (pair ∷ pairs) a b s h k =
      elim (cases_eq pair.0 b) [
        | inl e ↦ let l = All-head (λ (x : ℕ × S). x.0 < a) pair pairs h in omega arith
        | inr ne ↦ look_up-below pairs a b s (All-tail (λ (x : ℕ × S). x.0 < a) pair pairs h) (sym (look_up-there pair pairs b ne) ∙ k)
      ]

  pub look_up-push_other : (pairs : List (ℕ × S)) (pair : ℕ × S) (a : ℕ) → (pair.0 ≡ a → ⊥) → look_up (pairs ++ pair ∷ []) a ≡ look_up pairs a
  look_up-push_other [] pair a ne = look_up-there pair [] a ne
  look_up-push_other (x ∷ pairs) pair a ne = ap (λ o. if x.0 == a then Some x.1 else o) (look_up-push_other pairs pair a ne)

  pub look_up-push_same : (pairs : List (ℕ × S)) (pair : ℕ × S) → look_up pairs pair.0 ≡ None → look_up (pairs ++ pair ∷ []) pair.0 ≡ Some pair.1
  look_up-push_same [] pair h = look_up-here pair [] pair.0 refl
  look_up-push_same (x ∷ pairs) pair h =
      elim (cases_eq x.0 pair.0) [
        | inl e ↦ let k = look_up-here x pairs pair.0 e in cc
        | inr ne ↦ look_up-there x (pairs ++ pair ∷ []) pair.0 ne ∙ look_up-push_same pairs pair (sym (look_up-there x pairs pair.0 ne) ∙ h)
      ]

  -- in a list by increasing letters the letters of a front are below the next
  pub HasIncreasingLetters-front : (pairs : List (ℕ × S)) (pair : ℕ × S) (rest : List (ℕ × S)) → HasIncreasingLetters (pairs ++ pair ∷ rest) → All (λ before. before.0 < pair.0) pairs
  HasIncreasingLetters-front [] pair rest h = All-nil (λ (before : ℕ × S). before.0 < pair.0)
  HasIncreasingLetters-front (x ∷ pairs) pair rest h =
      All-cons (λ (before : ℕ × S). before.0 < pair.0) x pairs
      (subst (λ (later : ℕ × S). x.0 < later.0) (get_or-append_seam pairs pair rest x)
      (h.0 (length pairs) x (let e = length-append pairs (pair ∷ rest) in omega arith)))
      (HasIncreasingLetters-front pairs pair rest h.1)

module _ {X : Type 0} where
  -- a place below the length keeps what it has when the list grows
  pub slice_get-append_below : (xs ys : List X) (i : ℕ) → i < length xs → slice_get (xs ++ ys) i ≡ slice_get xs i
  slice_get-append_below xs ys i l = let x = slice_get-some xs i l in slice_get-append xs ys i x.0 x.1 ∙ sym x.1
