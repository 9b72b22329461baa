-- Members of lists, and lists whose members differ.
use Rattle.std.proofs.Common.{◌≡◌, ◌<◌, ◌+◌, ◌⊎◌, ℕ, zero, suc, Bool, true, false, nat_eq, List, [], ◌∷◌, Contains, length, map, take, get_or, sym, ap, subst, ◌∙◌, inl, inr, arith}
use Rattle.std.specs.List.{AllByRecursion, IsDistinct, flat_map, list_any, range_with_len}
use Rattle.std.proofs.lemmas.Bool.{cases_Bool, or_cases, or_left, or_right, false≢true}
use Rattle.std.proofs.lemmas.List.{take_more}
use Rattle.std.proofs.lemmas.List.Elements.{Contains-append_left, Contains-append_right, Contains-append_cases, Contains-push, Contains-push_cases}
use Rattle.std.proofs.lemmas.List.FromFn.{length-range_with_len, get_or-range_with_len}
use Rattle.std.proofs.lemmas.Map.Keys.{IsDistinct-cons}
use Rattle.word_automata.proofs.ForCallers.{Contains-cases, Contains-none}

-- one more of the first elements
pub take_cases : {X : Type 0} (xs : List X) (i : ℕ) (d x : X) → i < length xs → Contains (take (i + 1) xs) x → Contains (take i xs) x ⊎ (get_or xs i d ≡ x)
take_cases xs i d x within there = Contains-push_cases (take i xs) (get_or xs i d) x (subst (λ ys. Contains ys x) (take_more xs i d within) there)

pub take_keeps : {X : Type 0} (xs : List X) (i : ℕ) (d x : X) → i < length xs → Contains (take i xs) x → Contains (take (i + 1) xs) x
take_keeps xs i d x within there = subst (λ ys. Contains ys x) (sym (take_more xs i d within)) (Contains-append_left (take i xs) (get_or xs i d ∷ []) x there)

pub take_last : {X : Type 0} (xs : List X) (i : ℕ) (d : X) → i < length xs → Contains (take (i + 1) xs) (get_or xs i d)
take_last xs i d within = subst (λ ys. Contains ys (get_or xs i d)) (sym (take_more xs i d within)) (Contains-push (take i xs) (get_or xs i d))

-- a range contains the numbers from its first one on
pub contains_number : (n k : ℕ) → k < n → Contains (range_with_len 0 n) k
contains_number n k below = (k, omega (arith, length-range_with_len 0 n), get_or-range_with_len 0 n k k below ∙ omega arith)

-- joined lists contain what one of them does, and nothing else
pub contains_joined : {X Y : Type 0} (f : X → List Y) (xs : List X) (x : X) (y : Y) → Contains xs x → Contains (f x) y → Contains (flat_map f xs) y
contains_joined f [] x y there at = absurd (Contains-none x there)
contains_joined f (first ∷ xs) x y there at = elim (Contains-cases first xs x there) [
  | inl here ↦ Contains-append_left (f first) (flat_map f xs) y (subst (λ z. Contains (f z) y) (sym here) at)
  | inr rest ↦ Contains-append_right (f first) (flat_map f xs) y (contains_joined f xs x y rest at)
]

pub contained_in_one : {X Y : Type 0} (f : X → List Y) (xs : List X) (y : Y) → Contains (flat_map f xs) y → (x : X) × Contains (f x) y
contained_in_one f [] y there = absurd (Contains-none y there)
contained_in_one f (first ∷ xs) y there = elim (Contains-append_cases (f first) (flat_map f xs) y there) [
  | inl here ↦ (first, here)
  | inr rest ↦ contained_in_one f xs y rest
]

-- where some element passes a test, one does
pub some_passes : {X : Type 0} (test : X → Bool) (xs : List X) → list_any test xs ≡ true → (x : X) × (test x ≡ true)
some_passes test [] none = absurd (false≢true none)
some_passes test (x ∷ xs) some = elim (or_cases (test x) (list_any test xs) some) [ inl here ↦ (x, here) | inr there ↦ some_passes test xs there ]

-- what two tests with equal values on a list say of a member
pub same_at : {X : Type 0} (f g : X → Bool) (xs : List X) → map f xs ≡ map g xs → (x : X) → Contains xs x → f x ≡ g x
same_at f g [] same x there = absurd (Contains-none x there)
same_at f g (first ∷ xs) same x (zero, within, here) = sym (ap f here) ∙ ap (λ l. get_or l 0 false) same ∙ ap g here
same_at f g (first ∷ xs) same x (suc k, within, here) = same_at f g xs (tail-same same) x (k, omega arith, here)
  where
    tail-same : {x y : Bool} {bs cs : List Bool} → x ∷ bs ≡ y ∷ cs → bs ≡ cs
    tail-same h = cc h

-- a number that is not in a list of different numbers makes it longer
all_differ : (x : ℕ) (xs : List ℕ) → (list_any (nat_eq x) xs ≡ true → ⊥) → AllByRecursion (λ y. nat_eq x y ≡ false) xs
all_differ x [] new = tt
all_differ x (y ∷ ys) new = elim (cases_Bool (nat_eq x y)) [
  | inl same ↦ absurd (new (or_left (nat_eq x y) (list_any (nat_eq x) ys) same))
  | inr differ ↦ (differ, all_differ x ys (λ there. new (or_right (nat_eq x y) (list_any (nat_eq x) ys) there)))
]

pub distinct_more : (x : ℕ) (xs : List ℕ) → (list_any (nat_eq x) xs ≡ true → ⊥) → IsDistinct nat_eq xs → IsDistinct nat_eq (x ∷ xs)
distinct_more x xs new distinct = IsDistinct-cons nat_eq x xs (all_differ x xs new) distinct
