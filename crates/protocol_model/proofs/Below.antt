-- Lists of letters that are all below a number.
use Rattle.std.proofs.Common.{◌≡◌, ℕ, true, List, [], ◌∷◌, ◌++◌, nat_lt, refl}
use Rattle.std.specs.List.{list_all}
use Rattle.std.proofs.lemmas.Bool.{and_parts, and_from, ltb-true, lt-ltb}
use Rattle.protocol_model.specs.System.{AllBelow}

pub AllBelow-left : (count : ℕ) (s t : List ℕ) → AllBelow count (s ++ t) → AllBelow count s
AllBelow-left count [] t h = tt
AllBelow-left count (x ∷ s) t h = (h.0, AllBelow-left count s t h.1)

pub AllBelow-right : (count : ℕ) (s t : List ℕ) → AllBelow count (s ++ t) → AllBelow count t
AllBelow-right count [] t h = h
AllBelow-right count (x ∷ s) t h = AllBelow-right count s t h.1

pub AllBelow-append : (count : ℕ) (s t : List ℕ) → AllBelow count s → AllBelow count t → AllBelow count (s ++ t)
AllBelow-append count [] t h g = g
AllBelow-append count (x ∷ s) t h g = (h.0, AllBelow-append count s t h.1 g)

-- the same as a test
pub AllBelow-from_test : (count : ℕ) (s : List ℕ) → list_all (λ a. nat_lt a count) s ≡ true → AllBelow count s
AllBelow-from_test count [] h = tt
AllBelow-from_test count (x ∷ s) h =
    let parts = and_parts (nat_lt x count) (list_all (λ a. nat_lt a count) s) h in
    (ltb-true x count parts.0, AllBelow-from_test count s parts.1)

pub test_from_AllBelow : (count : ℕ) (s : List ℕ) → AllBelow count s → list_all (λ a. nat_lt a count) s ≡ true
test_from_AllBelow count [] h = refl
test_from_AllBelow count (x ∷ s) h =
    and_from (nat_lt x count) (list_all (λ a. nat_lt a count) s) (lt-ltb x count h.0) (test_from_AllBelow count s h.1)
