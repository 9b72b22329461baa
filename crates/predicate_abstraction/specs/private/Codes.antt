-- Codes of classes and of marks of pairs.
use Rattle.std.specs.Prelude.{◌≡◌, ◌↔◌, ◌<◌, ◌≤◌, ◌+◌, ◌*◌, ℕ, Bool, true, false, List, Contains, length, slice_index}
use Rattle.predicate_abstraction.specs.private.Pairs.{Pairs}

-- the number with one more bit
abbrev pub with_bit : ℕ → Bool → ℕ
with_bit number true = 2 * number + 1
with_bit number false = 2 * number

-- the mark of a pair says whether the set has it, and there is none past the rows
pub record IsMark (set : Pairs) (row column : ℕ) (mark : Bool) : Type 0 where
  pub marked : row < set.rows → (mark ≡ true) ↔ Contains set.pairs (row, column)
  pub none : set.rows ≤ row → mark ≡ false

-- the code of the class and of the marks of the column in three rows
pub record IsCode (set : Pairs) (row column class code : ℕ) : Type 0 where
  pub first : Bool
  pub second : Bool
  pub third : Bool
  pub is_first : IsMark set row column first
  pub is_second : IsMark set (row + 1) column second
  pub is_third : IsMark set (row + 2) column third
  pub code_is : code ≡ with_bit (with_bit (with_bit class first) second) third

-- the codes of the first columns
pub record AreCodes (set : Pairs) (row : ℕ) (classes codes : List ℕ) (count : ℕ) : Type 0 where
  pub size : length codes ≡ count
  pub each : (p : ℕ) → p < count → IsCode set row p (slice_index classes p) (slice_index codes p)
