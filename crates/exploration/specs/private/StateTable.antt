-- States in slots by their codes: each stands in the first slot that was free for its code when it was put there.
use Rattle.std.specs.Prelude.{◌≡◌, ◌<◌, ◌+◌, ◌-◌, ◌%◌, ◌^◌, ℕ, suc, List, Some, length, slice_index_or, slice_get, bit_and}

-- the code of a state with a number, which is one more than the state's place, and 0 where the slot is free
abbrev pub Slot : Type 0
Slot = ℕ × ℕ

abbrev pub code_of : ℕ → ℕ
code_of hash = hash % 2 ^ 32

-- the slot of the code after so many steps, among so many slots
abbrev pub slot_of : ℕ → ℕ → ℕ → ℕ
slot_of slots code step = bit_and (code + step) (slots - 1)

-- what stands in the slot of the code after so many steps
abbrev pub slot_after : List Slot → ℕ → ℕ → Slot
slot_after slots code step = slice_index_or slots (slot_of (length slots) code step) (0, 0)

-- the code and the number stand in a slot of the code, and none is free before it
pub record StandsInSlot (slots : List Slot) (code number : ℕ) : Type 0 where
  pub steps : ℕ
  pub within : steps < length slots
  pub here : slot_after slots code steps ≡ (code, number)
  pub taken : (step : ℕ) → step < steps → (slot_after slots code step).1 ≡ 0 → ⊥

-- the slot is the first free one for the code
pub record IsFreeSlot (slots : List Slot) (code slot : ℕ) : Type 0 where
  pub steps : ℕ
  pub within : steps < length slots
  pub is : slot ≡ slot_of (length slots) code steps
  pub free : (slot_after slots code steps).1 ≡ 0
  pub taken : (step : ℕ) → step < steps → (slot_after slots code step).1 ≡ 0 → ⊥

-- what stands in the old slots stands in the new ones
pub record KeepsSlots (old new : List Slot) : Type 0 where
  pub stands : (code number : ℕ) → 0 < number → StandsInSlot old code number → StandsInSlot new code number

-- the number of each state's place stands in a slot of its code
pub record IsTable {S : Type 0} (hash : S → ℕ) (states : List S) (slots : List Slot) : Type 0 where
  pub stands : (r : ℕ) (s : S) → slice_get states r ≡ Some s → StandsInSlot slots (code_of (hash s)) (suc r)
