-- Numbers of a range, and lists that are made for each of them.
use Rattle.std.proofs.Common.{◌≡◌, ℕ, zero, suc, ◌+◌, ◌<◌, ◌≤◌, Bool, true, false, List, [], ◌∷◌, ◌++◌, All, AllPairs, Contains}
use Rattle.std.proofs.Common.{filter, flat_map, cond, refl, sym, ap, subst, ◌∙◌, arith, inl, inr}
use Rattle.std.specs.List.{AllByRecursion, range_with_len}
use Rattle.std.proofs.lemmas.Bool.{cases_eq}
use Rattle.std.proofs.lemmas.List.{flat_map_more}
use Rattle.std.proofs.lemmas.List.Concat.{flat_map-append}
use Rattle.std.proofs.lemmas.List.Elements.{recursion_from_All, filter-append, Contains-append_left, Contains-append_right, Contains-append_cases}
use Rattle.std.proofs.lemmas.List.FromFn.{length-range_with_len, get_or-range_with_len}
use Rattle.word_automata.proofs.ForCallers.{Contains-here, Contains-there, Contains-none, All-from_contains}
use Rattle.protocol_model.proofs.ForCallers.{range_with_len_push}
use Rattle.certificate.proofs.ForCallers.{AllByRecursion-append, AllPairs-append}

-- one more number of a range
range_more : (i : ℕ) → range_with_len 0 i ++ i ∷ [] ≡ range_with_len 0 (i + 1)
range_more i =
    let last : i ≡ 0 + i = omega arith in
    let next : suc i ≡ i + 1 = omega arith in
    ap (λ n. range_with_len 0 i ++ n ∷ []) last ∙ sym (range_with_len_push 0 i) ∙ ap (range_with_len 0) next

pub filter_range_more : (p : ℕ → Bool) (i : ℕ)
    → filter p (range_with_len 0 (i + 1)) ≡ filter p (range_with_len 0 i) ++ cond (p i) (i ∷ []) []
filter_range_more p i = ap (filter p) (sym (range_more i)) ∙ filter-append p (range_with_len 0 i) (i ∷ [])

pub flat_map_nested : {X Y Z : Type 0} (g : Y → List Z) (f : X → List Y) (xs : List X)
    → flat_map g (flat_map f xs) ≡ flat_map (λ x. flat_map g (f x)) xs
flat_map_nested g f [] = refl
flat_map_nested g f (x ∷ xs) =
    flat_map-append g (f x) (flat_map f xs) ∙ ap (λ rest. flat_map g (f x) ++ rest) (flat_map_nested g f xs)

-- the text that is made for one more number of a range
pub pieces_more : {X : Type 0} (f : ℕ → List X) (before : List X) (i : ℕ)
    → (before ++ flat_map f (range_with_len 0 i)) ++ f i ≡ before ++ flat_map f (range_with_len 0 (i + 1))
pieces_more f before i = flat_map_more f before (range_with_len 0 i) i ∙ ap (λ numbers. before ++ flat_map f numbers) (range_more i)

-- a number that passes a test is among those that do
pub passes_in_range : (p : ℕ → Bool) (lo k x : ℕ) → lo ≤ x → x < lo + k → p x ≡ true → Contains (filter p (range_with_len lo k)) x
passes_in_range p lo zero x low high pass = absurd (omega (arith, low, high))
passes_in_range p lo (suc k) x low high pass =
    let others = filter p (range_with_len (lo + 1) k) in
    elim (cases_eq lo x) [
      | inl e ↦
          subst (λ b. Contains (cond b (lo ∷ others) others) x) (sym (ap p e ∙ pass)) (subst (Contains (lo ∷ others)) e (Contains-here others lo))
      | inr differ ↦
          let later : Contains others x = passes_in_range p (lo + 1) k x (omega (arith, differ, low)) (omega (arith, high)) pass in
          elim (p lo) as (λ b. Contains (cond b (lo ∷ others) others) x) [ true ↦ Contains-there lo others x later | false ↦ later ]
    ]

pub all_in_range : (k : ℕ) → All (λ x. x < k) (range_with_len 0 k)
all_in_range k = λ i d within.
    let inside : i < k = omega (arith, within, length-range_with_len 0 k) in
    omega (arith, inside, get_or-range_with_len 0 k i d inside)

-- lists made for a range of numbers, end to end
module _ {X : Type 0} (f : ℕ → List X) where
  pub pieces_have : (lo k x : ℕ) (v : X) → lo ≤ x → x < lo + k → Contains (f x) v → Contains (flat_map f (range_with_len lo k)) v
  pieces_have lo zero x v low high there = absurd (omega (arith, low, high))
  pieces_have lo (suc k) x v low high there = elim (cases_eq lo x) [
    | inl e ↦
        Contains-append_left (f lo) (flat_map f (range_with_len (lo + 1) k)) v (subst (λ y. Contains (f y) v) (sym e) there)
    | inr differ ↦
        Contains-append_right (f lo) (flat_map f (range_with_len (lo + 1) k)) v
        (pieces_have (lo + 1) k x v (omega (arith, differ, low)) (omega (arith, high)) there)
  ]

  pub piece_of : (lo k : ℕ) (v : X) → Contains (flat_map f (range_with_len lo k)) v
      → (x : ℕ) × (lo ≤ x) × (x < lo + k) × Contains (f x) v
  piece_of lo zero v there = absurd (Contains-none v there)
  piece_of lo (suc k) v there = elim (Contains-append_cases (f lo) (flat_map f (range_with_len (lo + 1) k)) v there) [
    | inl here ↦ (lo, omega arith, omega arith, here)
    | inr rest ↦
        let found = piece_of (lo + 1) k v rest in
        (found.0, omega (arith, found.1), omega (arith, found.2), found.3)
  ]

  pub pieces_all : (P : X → Type 0) (lo k : ℕ) → ((x : ℕ) → x < lo + k → AllByRecursion P (f x))
      → AllByRecursion P (flat_map f (range_with_len lo k))
  pieces_all P lo zero each = tt
  pieces_all P lo (suc k) each =
      AllByRecursion-append P (f lo) (flat_map f (range_with_len (lo + 1) k)) (each lo (omega arith))
      (pieces_all P (lo + 1) k (λ x l. each x (omega (arith, l))))

-- all pairs of lists for a range of numbers
module _ {X : Type 0} (R : X → X → Type 0) where
  pub pairs_of_pieces : (f : ℕ → List X) (lo k : ℕ) → ((x : ℕ) → AllPairs R (f x))
      → ((x y : ℕ) → x < y → (u v : X) → Contains (f x) u → Contains (f y) v → R u v) → AllPairs R (flat_map f (range_with_len lo k))
  pairs_of_pieces f lo zero each across = λ i j d less within. absurd (omega arith)
  pairs_of_pieces f lo (suc k) each across =
      let later = flat_map f (range_with_len (lo + 1) k) in
      AllPairs-append R (f lo) later (each lo) (pairs_of_pieces f (lo + 1) k each across)
      (recursion_from_All (λ u. AllByRecursion (R u) later) (f lo) (All-from_contains (λ u. AllByRecursion (R u) later) (f lo) (λ u own.
      recursion_from_All (R u) later (All-from_contains (R u) later (λ v rest.
      let found = piece_of f (lo + 1) k v rest in across lo found.0 (omega (arith, found.1)) u v own found.3)))))

pub pairs_in_range : (k : ℕ) → AllPairs (λ i j. (i < j) × (j < k)) (range_with_len 0 k)
pairs_in_range k = λ i j d less within.
    let inside : j < k = omega (arith, within, length-range_with_len 0 k) in
    let first = get_or-range_with_len 0 k i d (omega (arith, less, inside)) in
    let second = get_or-range_with_len 0 k j d inside in
    (omega (arith, first, second, less), omega (arith, second, inside))
