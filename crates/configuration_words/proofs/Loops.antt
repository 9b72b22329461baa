-- Loops that append what each item of a list gives.
use Rattle.std.proofs.Common.{◌≡◌, ◌<◌, ◌+◌, ℕ, List, [], ◌∷◌, ◌++◌, map, flat_map, length, get_or, take, sym, ap, ◌∙◌, append_assoc}
use Rattle.std.proofs.lemmas.List.{map_more, flat_map_more, take_more}

-- one more item, by its image
pub mapped_more : {X Y : Type 0} (f : X → Y) (xs : List X) (i : ℕ) (d : X) (old now new : List Y) → i < length xs → now ≡ old ++ map f (take i xs)
    → new ≡ now ++ f (get_or xs i d) ∷ [] → new ≡ old ++ map f (take (i + 1) xs)
mapped_more {X} {Y} f xs i d old now new within before added =
    added
    ∙ ap (λ (ys : List Y). ys ++ f (get_or xs i d) ∷ []) before
    ∙ append_assoc old (map f (take i xs)) (f (get_or xs i d) ∷ [])
    ∙ ap (λ (ys : List Y). old ++ ys) (sym (map_more f xs i d within))

-- one more item, by a first element and a text
pub behind_more : {X Y : Type 0} (first : Y) (text : X → List Y) (xs : List X) (i : ℕ) (d : X) (old now middle new : List Y) → i < length xs
    → now ≡ old ++ flat_map (λ x. first ∷ text x) (take i xs) → middle ≡ now ++ first ∷ [] → new ≡ middle ++ text (get_or xs i d)
    → new ≡ old ++ flat_map (λ x. first ∷ text x) (take (i + 1) xs)
behind_more {X} {Y} first text xs i d old now middle new within before led added =
    let x = get_or xs i d in
    added
    ∙ ap (λ (ys : List Y). ys ++ text x) (led ∙ ap (λ (ys : List Y). ys ++ first ∷ []) before)
    ∙ append_assoc (old ++ flat_map (λ y. first ∷ text y) (take i xs)) (first ∷ []) (text x)
    ∙ flat_map_more (λ y. first ∷ text y) old (take i xs) x
    ∙ ap (λ (ys : List X). old ++ flat_map (λ y. first ∷ text y) ys) (sym (take_more xs i d within))
