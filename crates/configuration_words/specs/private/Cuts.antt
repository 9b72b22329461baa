-- Words that are cut at separators.
pub use Rattle.sequence.specs.Cuts.{Lacks}
use Rattle.std.specs.Prelude.{◌≡◌, ℕ, List, ◌∷◌, ◌++◌, Option, MatchOption}

-- the word is cut at its first separator, if it has one: what stands before it, and what stands behind it
pub record IsCut (separator : ℕ) (word front : List ℕ) (behind : Option (List ℕ)) : Type 0 where
  pub first : Lacks separator front
  pub joined : MatchOption behind (word ≡ front) (λ rest. word ≡ front ++ separator ∷ rest)
