-- What a sink is to its callers, and what each of its answers says.
use Rattle.std.specs.Prelude.{ℕ, ◌-◌, ◌≤◌, ◌≡◌, List, length, take, IfSome, Option, None, Some, Result, Ok, Err}
use Rattle.std.specs.Io.KnownBytes.{Appends}
use Rattle.armc_io.specs.Faults.{Rose, next_count}

-- the bytes written so far, where they are told; how many more are taken without a fault, where that is
-- guaranteed; the count of faults
pub record SinkState : Type 0 where
  pub written : Option (List ℕ)
  pub guaranteed_room : Option ℕ
  pub faults : ℕ

-- at `Failed`, the count of faults rose, and a prefix of the piece was appended
pub record FailsToPut (old new : SinkState) (bytes : List ℕ) : Type 0 where
  pub rose : Rose old.faults new.faults
  pub prefix : (n : ℕ) × Appends old.written new.written (take n bytes)

-- what an answer of `put` says
abbrev pub PutAnswers : {T E : Type 0} → SinkState → SinkState → List ℕ → Result T E → Type 0
PutAnswers old new bytes (Ok _) = Appends old.written new.written bytes
PutAnswers old new bytes (Err _) = FailsToPut old new bytes

-- a piece within the guaranteed room is no fault, and uses up its length of that room
abbrev pub FitsWithoutFault : SinkState → SinkState → List ℕ → Type 0
FitsWithoutFault old new bytes =
    IfSome old.guaranteed_room
    (λ room. length bytes ≤ room → (new.faults ≡ old.faults) × (new.guaranteed_room ≡ Some (room - length bytes)))

-- a writer took all bytes, or at `Err` a prefix
abbrev pub WritesPrefix : {T E : Type 0} → Option (List ℕ) → Option (List ℕ) → List ℕ → Result T E → Type 0
WritesPrefix old new bytes (Ok _) = Appends old new bytes
WritesPrefix old new bytes (Err _) = (n : ℕ) × Appends old new (take n bytes)

-- a sink over a writer tells what the writer tells, and guarantees no room
abbrev pub stream_state : Option (List ℕ) → ℕ → SinkState
stream_state written faults = record { written = written; guaranteed_room = None; faults = faults }

-- the count of faults of a sink over a writer goes up at `Err` alone
abbrev pub counted : {T E : Type 0} → ℕ → Result T E → ℕ
counted faults (Ok _) = faults
counted faults (Err _) = next_count faults
