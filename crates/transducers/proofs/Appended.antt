-- Appending to a list what a function gives for each item of another.
use Rattle.std.proofs.Common.{◌≡◌, ℕ, ◌+◌, ◌<◌, ◌≤◌, List, [], ◌∷◌, ◌++◌, map, length, get_or, take, ap, sym, ◌∙◌, append_assoc}
use Rattle.std.proofs.lemmas.List.{map_more, take_all}

module _ {X Y : Type 0} (f : X → Y) (xs : List X) (i : ℕ) (old now : List Y) (before : now ≡ old ++ map f (take i xs)) where
  -- one more item
  pub appended_more : (x : X) (y : Y) (new : List Y) → i < length xs → y ≡ f (get_or xs i x) → new ≡ now ++ y ∷ []
      → new ≡ old ++ map f (take (i + 1) xs)
  appended_more x y new within is added =
      added
      ∙ ap (λ (ys : List Y). ys ++ y ∷ []) before
      ∙ append_assoc old (map f (take i xs)) (y ∷ [])
      ∙ ap (λ (z : Y). old ++ (map f (take i xs) ++ z ∷ [])) is
      ∙ ap (λ (ys : List Y). old ++ ys) (sym (map_more f xs i x within))

  -- all items
  pub appended_all : (all : List X) → length xs ≤ i → xs ≡ all → now ≡ old ++ map f all
  appended_all all past is = before ∙ ap (λ (zs : List X). old ++ map f zs) (take_all i xs past ∙ is)
