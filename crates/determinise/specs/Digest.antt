-- The number by which a set of states is hashed.
use Rattle.std.specs.Prelude.{ℕ, ◌*◌, ◌%◌, List, [], ◌∷◌, bit_xor}

-- the number with one more state
abbrev pub mixed : ℕ → ℕ → ℕ
mixed number state = (bit_xor number state * 11400714819323198485) % 18446744073709551616

-- the number with more states, in their order
abbrev pub digest_from : ℕ → List ℕ → ℕ
digest_from number [] = number
digest_from number (state ∷ states) = digest_from (mixed number state) states

abbrev pub digest : List ℕ → ℕ
digest states = digest_from 0 states
