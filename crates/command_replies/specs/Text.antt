-- How one text reaches its sink.
use Rattle.std.specs.Prelude.{ℕ, List, Result, Ok, Err}
use Rattle.std.specs.Io.KnownBytes.{Appends}
use Rattle.armc_io.specs.Sink.{SinkState, FailsToPut}
use Rattle.command_replies.specs.Delivery.{IsUntouched}

-- the text was appended, and nothing was done where it is empty
pub record PutsWhole (old new : SinkState) (text : List ℕ) : Type 0 where
  pub appended : Appends old.written new.written text
  pub untouched : IsUntouched text old new

-- at `Ok` the text was appended; at `Err` a prefix of it was, and the count of faults rose
abbrev pub PutsText : {T E : Type 0} → SinkState → SinkState → List ℕ → Result T E → Type 0
PutsText old new text (Ok _) = PutsWhole old new text
PutsText old new text (Err _) = FailsToPut old new text
