-- Lists in increasing order are told by their elements, and so are lists of successors.
use Rattle.std.proofs.Common.{◌≡◌, ◌==◌, ◌<◌, ◌&&◌, ◌⊎◌, ℕ, zero, suc, List, [], ◌∷◌, length, refl, sym, subst, ◌∙◌, inl, inr, arith, IsTrue, nat_lt, true≢false, ltb-true, eqb-true}
use Rattle.std.specs.Prelude.{Contains, AllPairs}
use Rattle.std.proofs.lemmas.Bool.{or_cases, and_parts}
use Rattle.sequence.specs.WordOrder.{is_lexicographically_before, is_before}
use Rattle.protocol_model.specs.declared.system.Configuration.{Configuration}
use Rattle.protocol_model.specs.System.{SystemData}
use Rattle.protocol_model.specs.Words.{word_of}
use Rattle.protocol_steps.specs.Successors.{AreSuccessors, comes_before}

-- an order in which no element comes both before and after another
module _ (X : Type 0) (R : X → X → Type 0) (never_both : (x y : X) → R x y → R y x → ⊥) where
  at_front : (x : X) (xs : List X) (z : X) → Contains (x ∷ xs) z → (x ≡ z) ⊎ Contains xs z
  at_front x xs z (zero, within, is) = inl is
  at_front x xs z (suc i, within, is) = inr (i, omega (arith, within), is)

  first : (x : X) (xs : List X) → Contains (x ∷ xs) x
  first x xs = (0, omega arith, refl)

  behind : (x : X) (xs : List X) (z : X) → Contains xs z → Contains (x ∷ xs) z
  behind x xs z (i, within, is) = (suc i, omega (arith, within), is)

  -- the first element comes before each later one
  before_later : (x : X) (xs : List X) (z : X) → AllPairs R (x ∷ xs) → Contains xs z → R x z
  before_later x xs z pairs (i, within, is) = subst (R x) is (pairs 0 (suc i) z (omega arith) (omega (arith, within)))

  rest_rises : (x : X) (xs : List X) → AllPairs R (x ∷ xs) → AllPairs R xs
  rest_rises x xs pairs = λ i j d less within. pairs (suc i) (suc j) d (omega (arith, less)) (omega (arith, within))

  heads : (x : X) (xs : List X) (y : X) (ys : List X) → AllPairs R (x ∷ xs) → AllPairs R (y ∷ ys) → Contains (y ∷ ys) x → Contains (x ∷ xs) y → x ≡ y
  heads x xs y ys px py one other = elim (at_front y ys x one) [
    | inl e ↦ sym e
    | inr later ↦ elim (at_front x xs y other) [
      | inl e ↦ e
      | inr later_too ↦ absurd (never_both x y (before_later x xs y px later_too) (before_later y ys x py later))
    ]
  ]

  -- what stands behind the first element of the one list stands behind that of the other
  tails : (x : X) (xs : List X) (y : X) (ys : List X) → AllPairs R (x ∷ xs) → x ≡ y → ((z : X) → Contains (x ∷ xs) z → Contains (y ∷ ys) z)
      → (z : X) → Contains xs z → Contains ys z
  tails x xs y ys px same to z within = elim (at_front y ys z (to z (behind x xs z within))) [
    | inl e ↦
        let less : R x x = subst (R x) (sym (same ∙ e)) (before_later x xs z px within) in
        absurd (never_both x x less less)
    | inr later ↦ later
  ]

  pub rising_once : (xs ys : List X) → AllPairs R xs → AllPairs R ys → ((z : X) → Contains xs z → Contains ys z)
      → ((z : X) → Contains ys z → Contains xs z) → xs ≡ ys
  rising_once [] [] px py to from = refl
  rising_once [] (y ∷ ys) px py to from = let found = from y (first y ys) in let within = found.1 in absurd (omega (arith, within))
  rising_once (x ∷ xs) [] px py to from = let found = to x (first x xs) in let within = found.1 in absurd (omega (arith, within))
  rising_once (x ∷ xs) (y ∷ ys) px py to from =
      let same = heads x xs y ys px py (to x (first x xs)) (from y (first y ys)) in
      let later = rising_once xs ys (rest_rises x xs px) (rest_rises y ys py) (tails x xs y ys px same to) (tails y ys x xs py (sym same) from) in
      cc (same, later)

-- of two words at most one comes before the other
lexicographic_cases : (a b : ℕ) (u w : List ℕ) → IsTrue (is_lexicographically_before (a ∷ u) (b ∷ w))
    → (a < b) ⊎ ((a ≡ b) × IsTrue (is_lexicographically_before u w))
lexicographic_cases a b u w h = elim (or_cases (nat_lt a b) ((a == b) && is_lexicographically_before u w) h) [
  | inl less ↦ inl (ltb-true a b less)
  | inr more ↦ let parts = and_parts (a == b) (is_lexicographically_before u w) more in inr (eqb-true a b parts.0, parts.1)
]

lexicographic_once : (u w : List ℕ) → IsTrue (is_lexicographically_before u w) → IsTrue (is_lexicographically_before w u) → ⊥
lexicographic_once [] w h k = true≢false (sym h)
lexicographic_once (a ∷ u) [] h k = true≢false (sym h)
lexicographic_once (a ∷ u) (b ∷ w) h k = elim (lexicographic_cases a b u w h) [
  | inl less ↦ elim (lexicographic_cases b a w u k) [ inl other ↦ absurd (omega (arith, less, other)) | inr other ↦ absurd (let e = other.0 in omega (arith, less, e)) ]
  | inr more ↦ elim (lexicographic_cases b a w u k) [
    | inl other ↦ absurd (let e = more.0 in omega (arith, other, e))
    | inr other ↦ lexicographic_once u w more.1 other.1
  ]
]

before_cases : (u w : List ℕ) → IsTrue (is_before u w) → (length u < length w) ⊎ ((length u ≡ length w) × IsTrue (is_lexicographically_before u w))
before_cases u w h = elim (or_cases (nat_lt (length u) (length w)) ((length u == length w) && is_lexicographically_before u w) h) [
  | inl less ↦ inl (ltb-true (length u) (length w) less)
  | inr more ↦ let parts = and_parts (length u == length w) (is_lexicographically_before u w) more in
      inr (eqb-true (length u) (length w) parts.0, parts.1)
]

word_once : (u w : List ℕ) → IsTrue (is_before u w) → IsTrue (is_before w u) → ⊥
word_once u w h k = elim (before_cases u w h) [
  | inl less ↦ elim (before_cases w u k) [ inl other ↦ absurd (omega (arith, less, other)) | inr other ↦ absurd (let e = other.0 in omega (arith, less, e)) ]
  | inr more ↦ elim (before_cases w u k) [
    | inl other ↦ absurd (let e = more.0 in omega (arith, other, e))
    | inr other ↦ lexicographic_once u w more.1 other.1
  ]
]

pair_cases : (s : SystemData) (p q : ℕ × Configuration) → IsTrue (comes_before s p q)
    → (p.0 < q.0) ⊎ ((p.0 ≡ q.0) × IsTrue (is_before (word_of s p.1) (word_of s q.1)))
pair_cases s p q h = elim (or_cases (nat_lt p.0 q.0) ((p.0 == q.0) && is_before (word_of s p.1) (word_of s q.1)) h) [
  | inl less ↦ inl (ltb-true p.0 q.0 less)
  | inr more ↦ let parts = and_parts (p.0 == q.0) (is_before (word_of s p.1) (word_of s q.1)) more in inr (eqb-true p.0 q.0 parts.0, parts.1)
]

pair_once : (s : SystemData) (p q : ℕ × Configuration) → IsTrue (comes_before s p q) → IsTrue (comes_before s q p) → ⊥
pair_once s p q h k = elim (pair_cases s p q h) [
  | inl less ↦ elim (pair_cases s q p k) [ inl other ↦ absurd (omega (arith, less, other)) | inr other ↦ absurd (let e = other.0 in omega (arith, less, e)) ]
  | inr more ↦ elim (pair_cases s q p k) [
    | inl other ↦ absurd (let e = more.0 in omega (arith, other, e))
    | inr other ↦ word_once (word_of s p.1) (word_of s q.1) more.1 other.1
  ]
]

pub successors_once : (s : SystemData) (c : Configuration) (pairs others : List (ℕ × Configuration)) → AreSuccessors s c pairs
    → AreSuccessors s c others → pairs ≡ others
successors_once s c pairs others one other =
    rising_once (ℕ × Configuration) (λ p q. IsTrue (comes_before s p q)) (pair_once s) pairs others one.increasing other.increasing
    (λ z within. (other.each_step z.0 z.1).1 ((one.each_step z.0 z.1).0 within))
    (λ z within. (one.each_step z.0 z.1).1 ((other.each_step z.0 z.1).0 within))
