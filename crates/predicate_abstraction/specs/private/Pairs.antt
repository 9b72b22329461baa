-- Sets of pairs.
use Rattle.std.specs.Prelude.{◌≡◌, ◌↔◌, ◌⊎◌, ◌<◌, ◌*◌, ◌+◌, ℕ, Bool, true, false, List, ◌++◌, All, Contains, length, slice_index_or}

-- pairs of a row and a column
pub record Pairs : Type 0 where
  pub rows : ℕ
  pub columns : ℕ
  pub pairs : List (ℕ × ℕ)

-- a mark for each pair of a row and a column, which says whether it is one of the pairs
pub record AreMarked (rows columns : ℕ) (marks : List Bool) (pairs : List (ℕ × ℕ)) : Type 0 where
  pub count : length marks ≡ rows * columns
  pub in_range : All (λ pair. (pair.0 < rows) × (pair.1 < columns)) pairs
  pub marked : (row column : ℕ) → row < rows → column < columns
      → (slice_index_or marks (row * columns + column) false ≡ true) ↔ Contains pairs (row, column)

-- new has what old has in the same places, all such pairs, and no others
pub record AddsPairs (is_added : ℕ × ℕ → Type 0) (old new : Pairs) : Type 0 where
  pub same_rows : new.rows ≡ old.rows
  pub same_columns : new.columns ≡ old.columns
  pub begins : (more : List (ℕ × ℕ)) × (new.pairs ≡ old.pairs ++ more)
  pub added : (pair : ℕ × ℕ) → is_added pair → Contains new.pairs pair
  pub only : (pair : ℕ × ℕ) → Contains new.pairs pair → Contains old.pairs pair ⊎ is_added pair
