-- Words of 64 bits, bit by bit.
use Rattle.std.specs.Prelude.{◌≡◌, ◌↔◌, ◌<◌, ℕ, List, [], Contains, slice_index, slice_index_or}
use Rattle.std.specs.Int.{bit_at}

-- the bit is set
abbrev pub HasBit : ℕ → ℕ → Type 0
HasBit word i = bit_at word i ≡ 1

-- the other word has each bit of this one
abbrev pub IsPart : ℕ → ℕ → Type 0
IsPart word other = (i : ℕ) → i < 64 → HasBit word i → HasBit other i

-- the bits that both words have
abbrev pub AreCommonBits : ℕ → ℕ → ℕ → Type 0
AreCommonBits word other common = (i : ℕ) → HasBit common i ↔ (HasBit word i × HasBit other i)

-- the word with one more bit
pub record AddsBit (old bit new : ℕ) : Type 0 where
  pub added : HasBit new bit
  pub others : (i : ℕ) → (i ≡ bit → ⊥) → bit_at new i ≡ bit_at old i

-- the word with one bit less
pub record TakesBit (old bit new : ℕ) : Type 0 where
  pub taken : HasBit new bit → ⊥
  pub others : (i : ℕ) → i < 64 → (i ≡ bit → ⊥) → bit_at new i ≡ bit_at old i
  pub less : new < old

-- the word has the bits that the words at the place of the sets have together
pub record IsWordOfAll (sets : List (List ℕ)) (places : List ℕ) (at word : ℕ) : Type 0 where
  pub only : (i : ℕ) → HasBit word i → (p : ℕ) × Contains places p × HasBit (slice_index (slice_index_or sets p []) at) i
  pub all : (p i : ℕ) → Contains places p → HasBit (slice_index (slice_index_or sets p []) at) i → HasBit word i
