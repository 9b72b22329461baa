-- Moves at the ends of lists.
use Rattle.std.proofs.Common.{◌≡◌, ◌==◌, ◌↔◌, ℕ, suc, Bool, true, false, List, [], ◌∷◌, ◌++◌, length, refl, ap, sym, ◌∙◌, ◌&&◌, arith, Decides}
use Rattle.std.proofs.lemmas.Bool.Decides.{Decides-eqb}
use Rattle.std.proofs.lemmas.Bool.{and_parts, and_from}
use Rattle.protocol_model.specs.Moves.{IsRingMove}

pub never : {P : Type 0} → (P → ⊥) → (false ≡ true) ↔ P
never h = (λ e. absurd (false_true e), λ p. absurd (h p))
  where
    false_true : false ≡ true → ⊥
    false_true e = cc

pub head_of : (x y : ℕ) (xs ys : List ℕ) → x ∷ xs ≡ y ∷ ys → x ≡ y
head_of x y xs ys e = cc

pub tail_of : (x y : ℕ) (xs ys : List ℕ) → x ∷ xs ≡ y ∷ ys → xs ≡ ys
tail_of x y xs ys e = cc

pub length_last : (xs : List ℕ) (x : ℕ) → length (xs ++ x ∷ []) ≡ suc (length xs)
length_last [] x = refl
length_last (y ∷ xs) x = ap suc (length_last xs x)

pub not_empty : (xs : List ℕ) (x : ℕ) → length (xs ++ x ∷ []) ≡ 0 → ⊥
not_empty xs x h = omega (arith, length_last xs x)

pub last_injective : (xs ys : List ℕ) (x y : ℕ) → xs ++ x ∷ [] ≡ ys ++ y ∷ [] → (xs ≡ ys) × (x ≡ y)
last_injective [] [] x y e = (refl, head_of x y [] [] e)
last_injective [] (z ∷ ys) x y e = absurd (not_empty ys y (ap length (sym (tail_of x z [] (ys ++ y ∷ []) e))))
last_injective (z ∷ xs) [] x y e = absurd (not_empty xs x (ap length (tail_of z y (xs ++ x ∷ []) [] e)))
last_injective (w ∷ xs) (z ∷ ys) x y e =
    let rest = last_injective xs ys x y (tail_of w z (xs ++ x ∷ []) (ys ++ y ∷ []) e) in
    (ap (λ v. v ∷ xs) (head_of w z (xs ++ x ∷ []) (ys ++ y ∷ []) e) ∙ ap (λ vs. z ∷ vs) rest.0, rest.1)

pub eq_of : (x y : ℕ) → (x == y) ≡ true → x ≡ y
eq_of x y h = (Decides-eqb x y).0 h

to_eq : (x y : ℕ) → x ≡ y → (x == y) ≡ true
to_eq x y h = (Decides-eqb x y).1 h

-- the ends of a ring

pub ring_is : (a b c d : ℕ) (old new old_rest new_rest old_between new_between : List ℕ) (x y u v : ℕ) (e : Bool) →
    old ≡ x ∷ old_rest → new ≡ y ∷ new_rest → old_rest ≡ old_between ++ u ∷ [] → new_rest ≡ new_between ++ v ∷ [] →
    Decides e (old_between ≡ new_between) →
    (((((x == b) && (y == d)) && ((u == a) && (v == c))) && e) ≡ true) ↔ IsRingMove a b c d old new
ring_is a b c d old new old_rest new_rest old_between new_between x y u v e o n s t w = (there, back)
  where
    there : ((((x == b) && (y == d)) && ((u == a) && (v == c))) && e) ≡ true → IsRingMove a b c d old new
    there h =
        let ends = (and_parts (((x == b) && (y == d)) && ((u == a) && (v == c))) e h).0 in
        let firsts = (and_parts ((x == b) && (y == d)) ((u == a) && (v == c)) ends).0 in
        let lasts = (and_parts ((x == b) && (y == d)) ((u == a) && (v == c)) ends).1 in
        let same = w.0 ((and_parts (((x == b) && (y == d)) && ((u == a) && (v == c))) e h).1) in
        record {
          between = old_between;
          was = o ∙ ap (λ z. z ∷ old_rest) (eq_of x b ((and_parts (x == b) (y == d) firsts).0)) ∙ ap (λ zs. b ∷ zs) s
              ∙ ap (λ z. b ∷ (old_between ++ z ∷ [])) (eq_of u a ((and_parts (u == a) (v == c) lasts).0));
          becomes = n ∙ ap (λ z. z ∷ new_rest) (eq_of y d ((and_parts (x == b) (y == d) firsts).1)) ∙ ap (λ zs. d ∷ zs) t
              ∙ ap (λ z. d ∷ (new_between ++ z ∷ [])) (eq_of v c ((and_parts (u == a) (v == c) lasts).1))
              ∙ ap (λ zs. d ∷ (zs ++ c ∷ [])) (sym same);
        }

    back : IsRingMove a b c d old new → ((((x == b) && (y == d)) && ((u == a) && (v == c))) && e) ≡ true
    back m =
        let old_is : x ∷ old_rest ≡ b ∷ (m.between ++ a ∷ []) = sym o ∙ m.was in
        let new_is : y ∷ new_rest ≡ d ∷ (m.between ++ c ∷ []) = sym n ∙ m.becomes in
        let old_last = last_injective old_between m.between u a (sym s ∙ tail_of x b old_rest (m.between ++ a ∷ []) old_is) in
        let new_last = last_injective new_between m.between v c (sym t ∙ tail_of y d new_rest (m.between ++ c ∷ []) new_is) in
        and_from (((x == b) && (y == d)) && ((u == a) && (v == c))) e
        (and_from ((x == b) && (y == d)) ((u == a) && (v == c))
        (and_from (x == b) (y == d) (to_eq x b (head_of x b old_rest (m.between ++ a ∷ []) old_is)) (to_eq y d (head_of y d new_rest (m.between ++ c ∷ []) new_is)))
        (and_from (u == a) (v == c) (to_eq u a old_last.1) (to_eq v c new_last.1)))
        (w.1 (old_last.0 ∙ sym new_last.0))

pub ring_old_empty : (a b c d : ℕ) (old new : List ℕ) → length old ≡ 0 → IsRingMove a b c d old new → ⊥
ring_old_empty a b c d old new h m =
    let long : length old ≡ suc (length (m.between ++ a ∷ [])) = ap length m.was in omega (arith, long, h)
