-- Lists of lists of edges, to which entries are added.
use Rattle.std.specs.Prelude.{◌≡◌, ◌<◌, ℕ, List, [], Contains, length, slice_index_or}
use Rattle.bit_set.specs.SetLists.{Adds}

-- the list at place p has the entry
abbrev pub IsListed : List (List (ℕ × ℕ)) → ℕ → ℕ × ℕ → Type 0
IsListed lists p entry = Contains (slice_index_or lists p []) entry

-- there is a list at place p
abbrev pub IsPlace : List (List (ℕ × ℕ)) → ℕ → ℕ × ℕ → Type 0
IsPlace lists p entry = p < length lists

-- entries come to lists
abbrev pub AddsEntries : (ℕ → ℕ × ℕ → Type 0) → List (List (ℕ × ℕ)) → List (List (ℕ × ℕ)) → Type 0
AddsEntries Added old new = Adds IsListed IsPlace Added old new

-- there are so many lists, without entries
pub record AreNone (amount : ℕ) (lists : List (List (ℕ × ℕ))) : Type 0 where
  pub count : length lists ≡ amount
  pub none : (p : ℕ) (entry : ℕ × ℕ) → IsListed lists p entry → ⊥
