-- Sets of symbols, by their numbers.
use Rattle.std.proofs.Common.{◌≡◌, ℕ, Bool, true, false, cond, eqb, List, [], ◌∷◌, ◌++◌, refl, subst, inl, inr, ◌⊎◌}
use Rattle.forms.specs.Shape.{is_in, are_apart}
use Rattle.std.proofs.lemmas.Bool.{eqb-true, eq-eqb}

apart_step : (x n : ℕ) (xs ys : List ℕ) → (are_apart xs ys ≡ true → is_in xs n ≡ true → is_in ys n ≡ true → ⊥)
    → (b d : Bool) → eqb n x ≡ b → is_in ys x ≡ d → cond d false (are_apart xs ys) ≡ true → cond b true (is_in xs n) ≡ true → is_in ys n ≡ true → ⊥
apart_step x n xs ys rest b true e g a p q = cc
apart_step x n xs ys rest true false e g a p q =
    let h : n ≡ x = eqb-true n x e in
    let k : is_in ys x ≡ true = subst (λ (m : ℕ). is_in ys m ≡ true) h q in
    cc
apart_step x n xs ys rest false false e g a p q = rest a p q

pub apart : (xs ys : List ℕ) (n : ℕ) → are_apart xs ys ≡ true → is_in xs n ≡ true → is_in ys n ≡ true → ⊥
apart [] ys n a p q = cc
apart (x ∷ xs) ys n a p q = apart_step x n xs ys (apart xs ys n) (eqb n x) (is_in ys x) refl refl a p q

cond_true : (b : Bool) (z : Bool) → z ≡ true → cond b true z ≡ true
cond_true true z h = refl
cond_true false z h = h

in_left_step : (b : Bool) (z w : Bool) → (z ≡ true → w ≡ true) → cond b true z ≡ true → cond b true w ≡ true
in_left_step true z w f h = refl
in_left_step false z w f h = f h

pub in_left : (xs ys : List ℕ) (n : ℕ) → is_in xs n ≡ true → is_in (xs ++ ys) n ≡ true
in_left [] ys n h = cc
in_left (x ∷ xs) ys n h = in_left_step (eqb n x) (is_in xs n) (is_in (xs ++ ys) n) (in_left xs ys n) h

pub in_right : (xs ys : List ℕ) (n : ℕ) → is_in ys n ≡ true → is_in (xs ++ ys) n ≡ true
in_right [] ys n h = h
in_right (x ∷ xs) ys n h = cond_true (eqb n x) (is_in (xs ++ ys) n) (in_right xs ys n h)

in_either_step : (b z w : Bool) {P : Type 0} → (z ≡ true → (w ≡ true) ⊎ P) → cond b true z ≡ true → (cond b true w ≡ true) ⊎ P
in_either_step true z w f h = inl refl
in_either_step false z w f h = f h

pub in_either : (xs ys : List ℕ) (n : ℕ) → is_in (xs ++ ys) n ≡ true → (is_in xs n ≡ true) ⊎ (is_in ys n ≡ true)
in_either [] ys n h = inr h
in_either (x ∷ xs) ys n h = in_either_step (eqb n x) (is_in (xs ++ ys) n) (is_in xs n) (in_either xs ys n) h

pub in_one : (n m : ℕ) → n ≡ m → is_in (m ∷ []) n ≡ true
in_one n m e = rw (eq-eqb n m e) refl
