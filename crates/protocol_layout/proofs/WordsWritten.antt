-- One more item was written in a loop.
use Rattle.std.proofs.Common.{◌≡◌, ◌++◌, ◌+◌, ◌<◌, ◌≤◌, ◌∷◌, [], ℕ, List, take, length, map, get_or, ap, sym, ◌∙◌, subst}
use Rattle.std.proofs.lemmas.List.{take_more, take_all, flat_map_more, map_more, append_assoc}
use Rattle.std.proofs.lemmas.List.Concat.{flat_map-append}
use Rattle.std.specs.List.{flat_map}
use Rattle.protocol_syntax.specs.Spacing.{Word, spaced}
use Rattle.protocol_layout.specs.private.Written.{Adds}

-- the words of a list and of one more item
flat_map_last : {X : Type 0} (f : X → List Word) (xs : List X) (x : X) → flat_map f (xs ++ x ∷ []) ≡ flat_map f xs ++ f x
flat_map_last f xs x = sym (flat_map_more f [] xs x)

pub written_more : {X : Type 0} (f : X → List Word) (xs : List X) (i : ℕ) (x : X) (old now new : List ℕ) → i < length xs → x ≡ get_or xs i x
    → now ≡ old ++ flat_map spaced (flat_map f (take i xs)) → new ≡ now ++ flat_map spaced (f x) → new ≡ old ++ flat_map spaced (flat_map f (take (i + 1) xs))
written_more {X} f xs i x old now new within is before added =
    let last : take i xs ++ x ∷ [] ≡ take (i + 1) xs = ap (λ (y : X). take i xs ++ y ∷ []) is ∙ sym (take_more xs i x within) in
    let words : flat_map f (take i xs) ++ f x ≡ flat_map f (take (i + 1) xs) = sym (flat_map_last f (take i xs) x) ∙ ap (flat_map f) last in
    let written : flat_map spaced (flat_map f (take i xs)) ++ flat_map spaced (f x) ≡ flat_map spaced (flat_map f (take (i + 1) xs)) =
    sym (flat_map-append spaced (flat_map f (take i xs)) (f x)) ∙ ap (flat_map spaced) words in
    added ∙ ap (λ (t : List ℕ). t ++ flat_map spaced (f x)) before ∙ append_assoc old (flat_map spaced (flat_map f (take i xs))) (flat_map spaced (f x)) ∙ ap (λ (t : List ℕ). old ++ t) written

pub written_all : {X : Type 0} (f : X → List Word) (xs : List X) (i : ℕ) (old now : List ℕ) → length xs ≤ i
    → now ≡ old ++ flat_map spaced (flat_map f (take i xs)) → Adds old now (flat_map f xs)
written_all {X} f xs i old now end before = subst (λ (ys : List X). now ≡ old ++ flat_map spaced (flat_map f ys)) (take_all i xs end) before

pub each_more : {X Y : Type 0} (h : Y → List ℕ) (f : X → Y) (xs : List X) (i : ℕ) (x : X) (old now new : List ℕ) → i < length xs → x ≡ get_or xs i x
    → now ≡ old ++ flat_map h (map f (take i xs)) → new ≡ now ++ h (f x) → new ≡ old ++ flat_map h (map f (take (i + 1) xs))
each_more {X} {Y} h f xs i x old now new within is before added =
    let last : map f (take i xs) ++ f x ∷ [] ≡ map f (take (i + 1) xs) = ap (λ (y : X). map f (take i xs) ++ f y ∷ []) is ∙ sym (map_more f xs i x within) in
    let written : flat_map h (map f (take i xs)) ++ h (f x) ≡ flat_map h (map f (take (i + 1) xs)) = flat_map_more h [] (map f (take i xs)) (f x) ∙ ap (flat_map h) last in
    added ∙ ap (λ (t : List ℕ). t ++ h (f x)) before ∙ append_assoc old (flat_map h (map f (take i xs))) (h (f x)) ∙ ap (λ (t : List ℕ). old ++ t) written

pub each_all : {X Y : Type 0} (h : Y → List ℕ) (f : X → Y) (xs : List X) (i : ℕ) (old now : List ℕ) → length xs ≤ i
    → now ≡ old ++ flat_map h (map f (take i xs)) → now ≡ old ++ flat_map h (map f xs)
each_all {X} h f xs i old now end before = subst (λ (ys : List X). now ≡ old ++ flat_map h (map f ys)) (take_all i xs end) before
