-- Copying a list item by item.
use Rattle.std.proofs.Common.{◌≡◌, ℕ, ◌+◌, ◌<◌, ◌≤◌, List, [], ◌∷◌, ◌++◌, length, get_or, take, ap, sym, ◌∙◌}
use Rattle.std.proofs.lemmas.List.{take_more, take_all}

module _ {X : Type 0} (xs : List X) (i : ℕ) (copies : List X) (before : copies ≡ take i xs) where
  -- one more item
  pub copied_more : (x y : X) (new : List X) → i < length xs → x ≡ get_or xs i x → y ≡ x → new ≡ copies ++ y ∷ [] → new ≡ take (i + 1) xs
  copied_more x y new within is same added =
      added
      ∙ ap (λ (ys : List X). ys ++ y ∷ []) before
      ∙ ap (λ (z : X). take i xs ++ z ∷ []) (same ∙ is)
      ∙ sym (take_more xs i x within)

  -- all items
  pub copied_all : (result : List X) → length xs ≤ i → result ≡ copies → result ≡ xs
  copied_all result past made = made ∙ before ∙ take_all i xs past
