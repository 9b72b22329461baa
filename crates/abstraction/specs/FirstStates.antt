-- The first states of classes.
use Rattle.std.specs.Prelude.{◌≡◌, ◌≢◌, ◌<◌, ℕ, List, length, slice_index, slice_get}

-- for each state the first state of its class: it has the class, and no state before it does
pub record AreFirsts (classes firsts : List ℕ) : Type 0 where
  pub count : length firsts ≡ length classes
  pub in_class : (p : ℕ) → p < length classes → slice_get classes (slice_index firsts p) ≡ slice_get classes p
  pub none_before : (p q : ℕ) → p < length classes → q < slice_index firsts p → slice_get classes q ≢ slice_get classes p
