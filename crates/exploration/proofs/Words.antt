-- The order of words: irreflexive, asymmetric and total, and how it goes on when words grow at their ends.
use Rattle.std.proofs.Common.{◌≡◌, ◌==◌, ◌<◌, ◌&&◌, ◌⊎◌, ℕ, suc, List, [], ◌∷◌, ◌++◌, length, reverse, refl, sym, ap, subst, ◌∙◌, inl, inr, arith, IsTrue, nat_lt}
use Rattle.std.proofs.Common.{length-append, true≢false, ltb-true, lt-ltb, eq-eqb, eqb-true}
use Rattle.std.proofs.lemmas.Bool.{or_cases, and_parts, and_from, or_left, or_right, cases_order}
use Rattle.std.proofs.lemmas.List.{reverse-reverse, reverse-append, length-reverse}
use Rattle.sequence.specs.WordOrder.{is_lexicographically_before, is_before, IsLeastWord}

-- what a comparison of two words says, and what shows it
is_lexicographically_before-cases : (a b : ℕ) (u w : List ℕ) → IsTrue (is_lexicographically_before (a ∷ u) (b ∷ w)) → (a < b) ⊎ ((a ≡ b) × IsTrue (is_lexicographically_before u w))
is_lexicographically_before-cases a b u w h =
    elim (or_cases (nat_lt a b) ((a == b) && is_lexicographically_before u w) h) [
      | inl less ↦ inl (ltb-true a b less)
      | inr more ↦ let parts = and_parts (a == b) (is_lexicographically_before u w) more in inr (eqb-true a b parts.0, parts.1)
    ]

lexicographic_first : (a b : ℕ) (u w : List ℕ) → a < b → IsTrue (is_lexicographically_before (a ∷ u) (b ∷ w))
lexicographic_first a b u w h = or_left (nat_lt a b) ((a == b) && is_lexicographically_before u w) (lt-ltb a b h)

lexicographic_later : (a : ℕ) (u w : List ℕ) → IsTrue (is_lexicographically_before u w) → IsTrue (is_lexicographically_before (a ∷ u) (a ∷ w))
lexicographic_later a u w h =
    or_right (nat_lt a a) ((a == a) && is_lexicographically_before u w) (and_from (a == a) (is_lexicographically_before u w) (eq-eqb a a refl) h)

before-cases : (u w : List ℕ) → IsTrue (is_before u w) → (length u < length w) ⊎ ((length u ≡ length w) × IsTrue (is_lexicographically_before u w))
before-cases u w h =
    elim (or_cases (nat_lt (length u) (length w)) ((length u == length w) && is_lexicographically_before u w) h) [
      | inl less ↦ inl (ltb-true (length u) (length w) less)
      | inr more ↦ let parts = and_parts (length u == length w) (is_lexicographically_before u w) more in
          inr (eqb-true (length u) (length w) parts.0, parts.1)
    ]

before-shorter : (u w : List ℕ) → length u < length w → IsTrue (is_before u w)
before-shorter u w h = or_left (nat_lt (length u) (length w)) ((length u == length w) && is_lexicographically_before u w) (lt-ltb (length u) (length w) h)

before-lexicographic : (u w : List ℕ) → length u ≡ length w → IsTrue (is_lexicographically_before u w) → IsTrue (is_before u w)
before-lexicographic u w e h =
    or_right (nat_lt (length u) (length w)) ((length u == length w) && is_lexicographically_before u w)
    (and_from (length u == length w) (is_lexicographically_before u w) (eq-eqb (length u) (length w) e) h)

lexicographic_irreflexive : (u : List ℕ) → IsTrue (is_lexicographically_before u u) → ⊥
lexicographic_irreflexive [] h = true≢false (sym h)
lexicographic_irreflexive (a ∷ u) h =
    elim (is_lexicographically_before-cases a a u u h) [ inl less ↦ absurd (omega arith) | inr more ↦ lexicographic_irreflexive u more.1 ]

lexicographic_asymmetric : (u w : List ℕ) → IsTrue (is_lexicographically_before u w) → IsTrue (is_lexicographically_before w u) → ⊥
lexicographic_asymmetric [] w h k = true≢false (sym h)
lexicographic_asymmetric (a ∷ u) [] h k = true≢false (sym h)
lexicographic_asymmetric (a ∷ u) (b ∷ w) h k =
    elim (is_lexicographically_before-cases a b u w h) [
      | inl less ↦ elim (is_lexicographically_before-cases b a w u k) [ inl other ↦ absurd (omega arith) | inr other ↦ absurd (omega arith) ]
      | inr more ↦ elim (is_lexicographically_before-cases b a w u k) [
        | inl other ↦ absurd (omega arith)
        | inr other ↦ lexicographic_asymmetric u w more.1 other.1
      ]
    ]

-- no word comes before itself
pub is_before-irreflexive : (u : List ℕ) → IsTrue (is_before u u) → ⊥
is_before-irreflexive u h =
    elim (before-cases u u h) [ inl less ↦ absurd (omega arith) | inr more ↦ lexicographic_irreflexive u more.1 ]

-- of two words at most one comes before the other
pub is_before-asymmetric : (u w : List ℕ) → IsTrue (is_before u w) → IsTrue (is_before w u) → ⊥
is_before-asymmetric u w h k =
    elim (before-cases u w h) [
      | inl less ↦ elim (before-cases w u k) [ inl other ↦ absurd (omega arith) | inr other ↦ absurd (omega arith) ]
      | inr more ↦ elim (before-cases w u k) [
        | inl other ↦ absurd (omega arith)
        | inr other ↦ lexicographic_asymmetric u w more.1 other.1
      ]
    ]

lexicographic_grows : (u w x y : List ℕ) → IsTrue (is_lexicographically_before u w) → IsTrue (is_lexicographically_before (u ++ x) (w ++ y))
lexicographic_grows [] w x y h = absurd (true≢false (sym h))
lexicographic_grows (a ∷ u) [] x y h = absurd (true≢false (sym h))
lexicographic_grows (a ∷ u) (b ∷ w) x y h =
    elim (is_lexicographically_before-cases a b u w h) [
      | inl less ↦ lexicographic_first a b (u ++ x) (w ++ y) less
      | inr more ↦ subst (λ c. IsTrue (is_lexicographically_before (a ∷ (u ++ x)) (c ∷ (w ++ y)))) more.0
          (lexicographic_later a (u ++ x) (w ++ y) (lexicographic_grows u w x y more.1))
    ]

lexicographic_at_end : (u : List ℕ) (a b : ℕ) → a < b → IsTrue (is_lexicographically_before (u ++ a ∷ []) (u ++ b ∷ []))
lexicographic_at_end [] a b h = lexicographic_first a b [] [] h
lexicographic_at_end (c ∷ u) a b h = lexicographic_later c (u ++ a ∷ []) (u ++ b ∷ []) (lexicographic_at_end u a b h)

before-grows : (u w : List ℕ) (a b : ℕ) → IsTrue (is_before u w) → IsTrue (is_before (u ++ a ∷ []) (w ++ b ∷ []))
before-grows u w a b h =
    elim (before-cases u w h) [
      | inl less ↦ before-shorter (u ++ a ∷ []) (w ++ b ∷ []) (omega (arith, length-append u (a ∷ []), length-append w (b ∷ [])))
      | inr more ↦ before-lexicographic (u ++ a ∷ []) (w ++ b ∷ [])
          (omega (arith, length-append u (a ∷ []), length-append w (b ∷ []))) (lexicographic_grows u w (a ∷ []) (b ∷ []) more.1)
    ]

-- The same order on words that are written from their ends, by recursion.
abbrev pub Below : List ℕ → List ℕ → Type 0
Below u [] = ⊥
Below [] (b ∷ w) = Unit {0}
Below (a ∷ u) (b ∷ w) = Below u w ⊎ ((u ≡ w) × (a < b))

before-at_end : (u w : List ℕ) (a b : ℕ) → u ≡ w → a < b → IsTrue (is_before (u ++ a ∷ []) (w ++ b ∷ []))
before-at_end u w a b e h =
    subst (λ v. IsTrue (is_before (u ++ a ∷ []) (v ++ b ∷ []))) e
    (before-lexicographic (u ++ a ∷ []) (u ++ b ∷ []) (omega (arith, length-append u (a ∷ []), length-append u (b ∷ []))) (lexicographic_at_end u a b h))

reverse_cons : (a : ℕ) (u : List ℕ) → reverse (a ∷ u) ≡ reverse u ++ a ∷ []
reverse_cons a u = reverse-append (a ∷ []) u

pub before_from_Below : (u w : List ℕ) → Below u w → IsTrue (is_before (reverse u) (reverse w))
before_from_Below u [] h = absurd h
before_from_Below [] (b ∷ w) h =
    before-shorter [] (reverse (b ∷ w)) (let e : length (reverse (b ∷ w)) ≡ suc (length w) = length-reverse (b ∷ w) in omega arith)
before_from_Below (a ∷ u) (b ∷ w) h =
    rw (reverse_cons a u, reverse_cons b w)
    (elim h [
      | inl less ↦ before-grows (reverse u) (reverse w) a b (before_from_Below u w less)
      | inr last ↦ before-at_end (reverse u) (reverse w) a b (ap reverse last.0) last.1
    ])

pub Below-cases : (u w : List ℕ) → Below u w ⊎ ((u ≡ w) ⊎ Below w u)
Below-cases [] [] = inr (inl refl)
Below-cases [] (b ∷ w) = inl tt
Below-cases (a ∷ u) [] = inr (inr tt)
Below-cases (a ∷ u) (b ∷ w) =
    elim (Below-cases u w) [
      | inl h ↦ inl (inl h)
      | inr (inr h) ↦ inr (inr (inl h))
      | inr (inl e) ↦ elim (cases_order a b) [
        | inl same ↦ inr (inl (cc))
        | inr (inl less) ↦ inl (inr (e, less))
        | inr (inr more) ↦ inr (inr (inr (sym e, more)))
      ]
    ]

pub Below-trans : (u v w : List ℕ) → Below u v → Below v w → Below u w
Below-trans u v [] h k = absurd k
Below-trans u [] (c ∷ w) h k = absurd h
Below-trans [] (b ∷ v) (c ∷ w) h k = tt
Below-trans (a ∷ u) (b ∷ v) (c ∷ w) h k =
    elim h [
      | inl less ↦ elim k [
        | inl more ↦ inl (Below-trans u v w less more)
        | inr last ↦ inl (subst (Below u) last.0 less)
      ]
      | inr first ↦ elim k [
        | inl more ↦ inl (subst (λ x. Below x w) (sym first.0) more)
        | inr last ↦ inr (first.0 ∙ last.0, (let x = first.1 in let y = last.1 in omega arith))
      ]
    ]

pub before_at_reverses : (u w : List ℕ) → Below (reverse u) (reverse w) → IsTrue (is_before u w)
before_at_reverses u w h =
    subst (λ x. IsTrue (is_before x w)) (reverse-reverse u)
    (subst (λ y. IsTrue (is_before (reverse (reverse u)) y)) (reverse-reverse w) (before_from_Below (reverse u) (reverse w) h))

-- of two different words one comes before the other
pub is_before-total : (u w : List ℕ) → IsTrue (is_before u w) ⊎ ((u ≡ w) ⊎ IsTrue (is_before w u))
is_before-total u w =
    elim (Below-cases (reverse u) (reverse w)) [
      | inl h ↦ inl (before_at_reverses u w h)
      | inr (inl e) ↦ inr (inl (sym (reverse-reverse u) ∙ ap reverse e ∙ reverse-reverse w))
      | inr (inr h) ↦ inr (inr (before_at_reverses w u h))
    ]

-- there is one least word at most
pub IsLeastWord-unique : (P : List ℕ → Type 0) (u w : List ℕ) → IsLeastWord P u → IsLeastWord P w → u ≡ w
IsLeastWord-unique P u w h k =
    elim (is_before-total u w) [
      | inl before ↦ absurd (k.1 u h.0 before)
      | inr (inl e) ↦ e
      | inr (inr before) ↦ absurd (h.1 w k.0 before)
    ]
