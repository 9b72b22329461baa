-- What holds of all elements of a list, and of all pairs of them.
use Rattle.std.proofs.Common.{suc, List, [], ◌∷◌, ◌++◌, AllPairs, Contains, map, subst, arith}
use Rattle.std.specs.List.{AllByRecursion}
use Rattle.std.proofs.lemmas.List.Elements.{All-append, All-from_recursion, All-map}
use Rattle.std.proofs.lemmas.List.Kept.{AllPairs-cons}

module _ {X : Type 0} where
  pub AllByRecursion-append : (P : X → Type 0) (xs ys : List X) → AllByRecursion P xs → AllByRecursion P ys → AllByRecursion P (xs ++ ys)
  AllByRecursion-append P [] ys h k = k
  AllByRecursion-append P (x ∷ xs) ys h k = (h.0, AllByRecursion-append P xs ys h.1 k)

  pub AllByRecursion-weaker : (P Q : X → Type 0) → ((x : X) → P x → Q x) → (xs : List X) → AllByRecursion P xs → AllByRecursion Q xs
  AllByRecursion-weaker P Q f [] h = tt
  AllByRecursion-weaker P Q f (x ∷ xs) h = (f x h.0, AllByRecursion-weaker P Q f xs h.1)

  pub AllByRecursion-mapped : {Y : Type 0} (P : Y → Type 0) (f : X → Y) (xs : List X) → AllByRecursion (λ x. P (f x)) xs
      → AllByRecursion P (map f xs)
  AllByRecursion-mapped P f [] h = tt
  AllByRecursion-mapped P f (x ∷ xs) h = (h.0, AllByRecursion-mapped P f xs h.1)

  module _ (R : X → X → Type 0) where
    pub AllPairs-tail : (x : X) (xs : List X) → AllPairs R (x ∷ xs) → AllPairs R xs
    AllPairs-tail x xs h = λ i j d less within. h (suc i) (suc j) d (omega arith) (omega arith)

    pub AllPairs-first : (x y : X) (xs : List X) → AllPairs R (x ∷ xs) → Contains xs y → R x y
    AllPairs-first x y xs h at = subst (R x) at.2 (h 0 (suc at.0) y (omega arith) (omega (arith, at.1)))

    pub AllPairs-append : (xs ys : List X) → AllPairs R xs → AllPairs R ys → AllByRecursion (λ x. AllByRecursion (R x) ys) xs
        → AllPairs R (xs ++ ys)
    AllPairs-append [] ys h k apart = k
    AllPairs-append (x ∷ xs) ys h k apart =
        AllPairs-cons R x (xs ++ ys)
        (All-append (R x) xs ys (λ i d within. h 0 (suc i) d (omega arith) (omega (arith, within))) (All-from_recursion (R x) ys apart.0))
        (AllPairs-append xs ys (AllPairs-tail x xs h) k apart.1)

    pub AllPairs-mapped : {Y : Type 0} (f : Y → X) (ys : List Y) → AllPairs (λ a b. R (f a) (f b)) ys → AllPairs R (map f ys)
    AllPairs-mapped f [] h = λ i j d less within. absurd (omega arith)
    AllPairs-mapped f (y ∷ ys) h =
        AllPairs-cons R (f y) (map f ys) (All-map (R (f y)) f ys (λ i d within. h 0 (suc i) d (omega arith) (omega (arith, within))))
        (AllPairs-mapped f ys (λ i j d less within. h (suc i) (suc j) d (omega arith) (omega (arith, within))))
