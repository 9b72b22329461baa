-- Lists of sets of numbers, and lists to whose elements something is added.
use Rattle.std.specs.Prelude.{◌≡◌, ◌↔◌, ◌⊎◌, ◌<◌, ◌+◌, ◌*◌, ◌/◌, ℕ, List, [], Contains, length, slice_index_or}
use Rattle.bit_set.specs.Bits.{Has}

-- the set at place k has the number; places past the sets have the empty set
abbrev pub HasAt : List (List ℕ) → ℕ → ℕ → Type 0
HasAt sets k number = Has (slice_index_or sets k []) number

-- the words of the set at place k have a bit for the number
abbrev pub HasRoom : List (List ℕ) → ℕ → ℕ → Type 0
HasRoom sets k number = number < 64 * length (slice_index_or sets k [])

-- there is a set at place k, and so many words have a bit for the number
abbrev pub IsInTable : ℕ → List (List ℕ) → ℕ → ℕ → Type 0
IsInTable words sets k number = (k < length sets) × (number < 64 * words)

-- what is told by Added comes to what was in the elements of the list, as far as there is room for it
pub record Adds {X Y : Type 0} (In Room : List X → ℕ → Y → Type 0) (Added : ℕ → Y → Type 0) (old new : List X) : Type 0 where
  pub count : length new ≡ length old
  pub room : (at : ℕ) (y : Y) → Room new at y ↔ Room old at y
  pub kept : (at : ℕ) (y : Y) → In old at y → In new at y
  pub added : (at : ℕ) (y : Y) → Added at y → Room old at y → In new at y
  pub only : (at : ℕ) (y : Y) → In new at y → In old at y ⊎ Added at y

-- numbers come to sets
abbrev pub AddsNumbers : (ℕ → ℕ → Type 0) → List (List ℕ) → List (List ℕ) → Type 0
AddsNumbers Added old new = Adds HasAt HasRoom Added old new

-- for each of the places come the numbers that are told of it
abbrev pub AddsForEach : List ℕ → (ℕ → ℕ → ℕ → Type 0) → List (List ℕ) → List (List ℕ) → Type 0
AddsForEach places Told old new = AddsNumbers (λ k number. (place : ℕ) × Contains places place × Told place k number) old new

-- there are so many sets, without numbers, and with the words of those below the bound
pub record AreEmpty (amount bound : ℕ) (sets : List (List ℕ)) : Type 0 where
  pub count : length sets ≡ amount
  pub none : (k number : ℕ) → HasAt sets k number → ⊥
  pub room : (k : ℕ) → k < amount → length (slice_index_or sets k []) ≡ bound / 64 + 1
