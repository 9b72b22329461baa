-- The number by which a set is hashed.
use Rattle.std.specs.Prelude.{ℕ, ◌*◌, ◌/◌, ◌%◌, List, [], ◌∷◌, bit_xor}

-- the number with one more word
abbrev pub mixed : ℕ → ℕ → ℕ
mixed number word = let product = (bit_xor number word * 11400714819323198485) % 18446744073709551616 in bit_xor product (product / 4294967296)

-- the number with more words, in their order
abbrev pub digest_from : ℕ → List ℕ → ℕ
digest_from number [] = number
digest_from number (word ∷ words) = digest_from (mixed number word) words

abbrev pub digest : List ℕ → ℕ
digest words = digest_from 0 words
