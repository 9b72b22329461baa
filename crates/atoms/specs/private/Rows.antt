-- Rows of numbers by states, made from sets over the places of the states that are used.
use Rattle.std.specs.Prelude.{◌≡◌, ◌<◌, ◌≤◌, ◌+◌, ◌*◌, ◌/◌, ℕ, List, [], length, slice_index, slice_index_or}
use Rattle.bit_set.specs.SetLists.{HasAt}
use Rattle.atoms.specs.private.Places.{IsPlaceOf, HoldsState}

-- no row has more words than those for so many numbers
abbrev pub AreNarrow : ℕ → List (List ℕ) → Type 0
AreNarrow count rows = (q : ℕ) → length (slice_index_or rows q []) ≤ count / 64 + 1

-- it is this number, and the row is that of the state at the place
abbrev pub IsNumberAt : List ℕ → ℕ → ℕ → ℕ → ℕ → Type 0
IsNumberAt used number place q k = IsPlaceOf used place q × (k ≡ number)

-- there are so many rows, without numbers, and those of the states at the first places have room for so many numbers
pub record AreEmptyRows (used : List ℕ) (bound states count : ℕ) (rows : List (List ℕ)) : Type 0 where
  pub size : length rows ≡ states
  pub none : (q k : ℕ) → HasAt rows q k → ⊥
  pub room : (place : ℕ) → place < bound → count ≤ 64 * length (slice_index_or rows (slice_index used place) [])

-- there are so many rows, and they have, for the first sets, the number of the set where it has a place of the state
pub record AreRowsOf (used : List ℕ) (sets : List (List ℕ)) (states bound : ℕ) (rows : List (List ℕ)) : Type 0 where
  pub size : length rows ≡ states
  pub complete : (place k : ℕ) → k < bound → place < length used → HasAt sets k place → HasAt rows (slice_index used place) k
  pub sound : (q k : ℕ) → HasAt rows q k → HoldsState used (slice_index_or sets k []) q
