-- The words of bounded length over an alphabet.
use Rattle.std.specs.Prelude.{ℕ, zero, suc, List, [], ◌∷◌, ◌++◌, map}
use Rattle.std.specs.List.{flat_map, range_with_len}

-- the words of exactly so many letters over an alphabet, in increasing order
abbrev pub words_of : ℕ → ℕ → List (List ℕ)
words_of letters zero = [] ∷ []
words_of letters (suc n) = flat_map (λ a. map (λ w. a ∷ w) (words_of letters n)) (range_with_len 0 letters)

-- those of at most so many letters, the shorter ones first
abbrev pub words_up_to : ℕ → ℕ → List (List ℕ)
words_up_to letters zero = words_of letters zero
words_up_to letters (suc n) = words_up_to letters n ++ words_of letters (suc n)
