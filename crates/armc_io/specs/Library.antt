-- What a library is to its callers, and what each of its answers says.
use Rattle.std.specs.Prelude.{◌≡◌, ℕ, ◌<◌, ◌≤◌, ◌⊎◌, List, length, Bool, true, false}
use Rattle.std.specs.Prelude.{IfSome, Option, Some, Vec, Result, Ok, Err}
use Rattle.std.specs.declared.alloc.Global.{Global}
use Rattle.armc_io.specs.Faults.{Rose}
use Rattle.armc_io.specs.declared.traits.ReadFail.{ReadFail}
use Rattle.armc_io.specs.declared.traits.ReadFail.TheVariants.{Failed, TooLong, Memory}

-- a call of `read_all`: the name, whether it answered `Failed`, and how many bytes it took
pub record ReadCall : Type 0 where
  pub name : List ℕ
  pub has_failed : Bool
  pub taken : ℕ

-- the bytes of each name, where they are told; whether reads of told names never fail; the count of faults; the last call
pub record LibraryState : Type 0 where
  pub told : List ℕ → Option (List ℕ)
  pub is_reliable : Bool
  pub faults : ℕ
  pub last : Option ReadCall

-- the last call was on this name, answered `Failed` or not, and took so many bytes
abbrev pub LastIs : LibraryState → List ℕ → Bool → ℕ → Type 0
LastIs now name has_failed taken = now.last ≡ Some (record { name = name; has_failed = has_failed; taken = taken })

-- at `Ok`, these are all bytes of the name, at most `limit` of them
pub record GivesAll (old new : LibraryState) (name : List ℕ) (limit : ℕ) (bytes : List ℕ) : Type 0 where
  pub whole : IfSome (old.told name) (λ text. bytes ≡ text)
  pub within : length bytes ≤ limit
  pub last : LastIs new name false (length bytes)

-- at `Failed`, the count of faults rose
pub record FailsToRead (old new : LibraryState) (name : List ℕ) : Type 0 where
  pub rose : Rose old.faults new.faults
  pub last : (taken : ℕ) × LastIs new name true taken

-- at `TooLong`, the name has more than `limit` bytes, and more than `limit` were taken
pub record IsTooLong (old new : LibraryState) (name : List ℕ) (limit : ℕ) : Type 0 where
  pub longer : IfSome (old.told name) (λ text. limit < length text)
  pub last : (taken : ℕ) × (limit < taken) × LastIs new name false taken

-- at `Memory`, the last call is as before, or it is this one
abbrev pub LacksMemory : LibraryState → LibraryState → List ℕ → Type 0
LacksMemory old new name = (new.last ≡ old.last) ⊎ ((taken : ℕ) × LastIs new name false taken)

-- what an answer of `read_all` says
abbrev pub ReadAnswers : LibraryState → LibraryState → List ℕ → ℕ → Result (Vec ℕ Global) ReadFail → Type 0
ReadAnswers old new name limit (Ok bytes) = GivesAll old new name limit bytes.items
ReadAnswers old new name limit (Err Failed) = FailsToRead old new name
ReadAnswers old new name limit (Err TooLong) = IsTooLong old new name limit
ReadAnswers old new name limit (Err Memory) = LacksMemory old new name
