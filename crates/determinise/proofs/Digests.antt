-- The number by which a set of states is hashed, state by state.
use Rattle.std.proofs.Common.{◌≡◌, ℕ, List, [], ◌∷◌, ◌++◌, refl}
use Rattle.determinise.specs.Digest.{mixed, digest_from}

pub digest_more : (number : ℕ) (states : List ℕ) (state : ℕ) → digest_from number (states ++ state ∷ []) ≡ mixed (digest_from number states) state
digest_more number [] state = refl
digest_more number (s ∷ states) state = digest_more (mixed number s) states state
