-- Lemmas on the elements of lists by their places.
use Rattle.std.proofs.Common.{◌≡◌, ℕ, zero, suc, ◌+◌, ◌-◌, ◌<◌, ◌≤◌, List, [], ◌∷◌, ◌++◌, map, length, slice_get, Option, Some, None}
use Rattle.std.proofs.Common.{Contains, refl, sym, ap, ◌∙◌, inl, inr, arith, ◌⊎◌}
use Rattle.std.specs.List.{range_with_len}
use Rattle.std.specs.Option.{option_map}
use Rattle.std.proofs.Math.Nat.{add-zero, add-suc}
use Rattle.std.proofs.lemmas.List.FromFn.{length-range_with_len, get_or-range_with_len}
use Rattle.std.proofs.lemmas.Option.{slice_get_read, slice_get_within, same_Some, get_or_from_slice_get}
pub use Rattle.sequence.proofs.ForCallers.{slice_get-append_left, slice_get-push_last}
use Rattle.word_automata.specs.Path.{spelled_one}
pub use Rattle.word_automata.proofs.ForCallers.{Contains-map_cases}

-- between the two ways to say that a list has an element
pub place_from_Contains : {X : Type 0} (xs : List X) (x : X) → Contains xs x → (k : ℕ) × (slice_get xs k ≡ Some x)
place_from_Contains xs x h = (h.0, slice_get_read xs (length xs) h.0 x refl h.1 (sym h.2))

pub Contains-from_place : {X : Type 0} (xs : List X) (k : ℕ) (x : X) → slice_get xs k ≡ Some x → Contains xs x
Contains-from_place xs k x e = (k, slice_get_within xs k x e, get_or_from_slice_get xs k x x e)

-- a word behind the same optional letter
pub spelled_one-cancel : (o : Option ℕ) (u w : List ℕ) → spelled_one o ++ u ≡ spelled_one o ++ w → u ≡ w
spelled_one-cancel None u w e = e
spelled_one-cancel (Some a) u w e = cc

-- an element of the second list keeps its place behind the first
pub slice_get-append_right : {X : Type 0} (xs ys : List X) (k : ℕ) → slice_get (xs ++ ys) (k + length xs) ≡ slice_get ys k
slice_get-append_right [] ys k = rw add-zero
slice_get-append_right (x ∷ xs) ys k = rw add-suc (slice_get-append_right xs ys k)

-- where the list has an element there, and where it has none
pub slice_get-cases : {X : Type 0} (xs : List X) (k : ℕ) → ((x : X) × (slice_get xs k ≡ Some x)) ⊎ (slice_get xs k ≡ None)
slice_get-cases [] k = inr refl
slice_get-cases (x ∷ xs) zero = inl (x, refl)
slice_get-cases (x ∷ xs) (suc k) = slice_get-cases xs k

-- a place within the list has an element
pub slice_get-within : {X : Type 0} (xs : List X) (k : ℕ) → k < length xs → (x : X) × (slice_get xs k ≡ Some x)
slice_get-within [] k h = absurd (omega arith)
slice_get-within (x ∷ xs) zero h = (x, refl)
slice_get-within (x ∷ xs) (suc k) h = slice_get-within xs k (omega arith)

-- an element of a mapped list comes from one of the list
pub slice_get-map_cases : {X Y : Type 0} (f : X → Y) (xs : List X) (k : ℕ) (y : Y) → slice_get (map f xs) k ≡ Some y → (x : X)
    × (slice_get xs k ≡ Some x) × (f x ≡ y)
slice_get-map_cases f [] k y e = cc
slice_get-map_cases f (x ∷ xs) zero y e = (x, refl, same_Some _ _ e)
slice_get-map_cases f (x ∷ xs) (suc k) y e = slice_get-map_cases f xs k y e

pub slice_get-map_image : {X Y : Type 0} (f : X → Y) (xs : List X) (k : ℕ) (x : X) → slice_get xs k ≡ Some x
    → slice_get (map f xs) k ≡ Some (f x)
slice_get-map_image f [] k x e = cc
slice_get-map_image f (y ∷ xs) zero x e = ap (λ o. option_map f o) e
slice_get-map_image f (y ∷ xs) (suc k) x e = slice_get-map_image f xs k x e

-- the numbers from the offset on
pub Contains-range_cases : (offset count a : ℕ) → Contains (range_with_len offset count) a → (offset ≤ a) × (a < offset + count)
Contains-range_cases offset count a h =
    let lt : h.0 < count = omega (arith, h.1, length-range_with_len offset count) in
    let e : offset + h.0 ≡ a = sym (get_or-range_with_len offset count h.0 a lt) ∙ h.2 in
    (omega arith, omega arith)

pub Contains-range : (offset count a : ℕ) → offset ≤ a → a < offset + count → Contains (range_with_len offset count) a
Contains-range offset count a low high =
    let lt : a - offset < count = omega arith in
    let is : offset + (a - offset) ≡ a = omega arith in
    (a - offset, omega (arith, length-range_with_len offset count), get_or-range_with_len offset count (a - offset) a lt ∙ is)
