-- The number by which a list of words is hashed, word by word.
use Rattle.std.proofs.Common.{◌≡◌, ℕ, List, [], ◌∷◌, ◌++◌, refl}
use Rattle.bit_set.specs.Digest.{mixed, digest_from}

pub digest_more : (number : ℕ) (words : List ℕ) (word : ℕ) → digest_from number (words ++ word ∷ []) ≡ mixed (digest_from number words) word
digest_more number [] word = refl
digest_more number (w ∷ words) word = digest_more (mixed number w) words word
