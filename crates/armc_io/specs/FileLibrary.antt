-- What is known of a library of files: nothing of their content, the count of faults and the last call.
use Rattle.std.specs.Prelude.{◌≡◌, ℕ, ◌+◌, ◌≤◌, length, List, Bool, true, false, Option, Some, None, Result, Ok, Err, Vec}
use Rattle.std.specs.declared.alloc.Global.{Global}
use Rattle.armc_io.specs.Faults.{next_count}
use Rattle.armc_io.specs.Library.{ReadCall, LibraryState}
use Rattle.armc_io.specs.declared.traits.ReadFail.{ReadFail}
use Rattle.armc_io.specs.declared.traits.ReadFail.TheVariants.{Failed, TooLong, Memory}

-- the count of faults and the last call
pub record FileReads : Type 0 where
  pub faults : ℕ
  pub last : Option ReadCall

-- no text is told, and no read is sure to succeed
abbrev pub file_state : FileReads → LibraryState
file_state now = record { told = λ _. None; is_reliable = false; faults = now.faults; last = now.last }

-- after a read of a name, with this count of faults
abbrev pub read_of : ℕ → List ℕ → Bool → ℕ → FileReads
read_of faults name has_failed taken =
    record { faults = faults; last = Some (record { name = name; has_failed = has_failed; taken = taken }) }

-- at most `limit` bytes and one more were taken, `TooLong` took that many, only `Failed` is a fault, and running out of memory
-- changes nothing
abbrev pub ReadsFile : FileReads → FileReads → List ℕ → ℕ → Result (Vec ℕ Global) ReadFail → Type 0
ReadsFile old new name limit (Ok bytes) = (length bytes.items ≤ limit) × (new ≡ read_of old.faults name false (length bytes.items))
ReadsFile old new name limit (Err Failed) =
    (taken : ℕ) × (taken ≤ limit + 1) × (new ≡ read_of (next_count old.faults) name true taken)
ReadsFile old new name limit (Err TooLong) = new ≡ read_of old.faults name false (limit + 1)
ReadsFile old new name limit (Err Memory) = new ≡ old
