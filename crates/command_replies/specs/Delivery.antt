-- How two texts reach their sinks, and what the status is then.
use Rattle.std.specs.Prelude.{◌≡◌, ◌≤◌, ◌⊎◌, ℕ, List, [], ◌∷◌, length, take, Some}
use Rattle.std.specs.Io.KnownBytes.{Appends}
use Rattle.armc_io.specs.Faults.{Rose}
use Rattle.armc_io.specs.Sink.{SinkState}
use Rattle.command_replies.specs.declared.status.Status.{Status}
use Rattle.command_replies.specs.declared.status.Status.TheVariants.{WriteFault}

-- a sink whose text is empty is left as it was
abbrev pub IsUntouched : List ℕ → SinkState → SinkState → Type 0
IsUntouched text sink sink' = text ≡ [] → sink' ≡ sink

-- both texts are whole
pub record IsWhole (status : Status) (out_text err_text : List ℕ) (out out' err err' : SinkState) (result : Status) : Type 0 where
  pub status_is : result ≡ status
  pub out_whole : Appends out.written out'.written out_text
  pub err_whole : Appends err.written err'.written err_text
  pub out_untouched : IsUntouched out_text out out'
  pub err_untouched : IsUntouched err_text err err'

-- the first sink failed: it has a prefix of its text, and the second has nothing
pub record FailsAtOut (out_text : List ℕ) (out out' err err' : SinkState) (result : Status) : Type 0 where
  pub status_is : result ≡ WriteFault
  pub out_rose : Rose out.faults out'.faults
  pub out_prefix : (n : ℕ) × Appends out.written out'.written (take n out_text)
  pub err_kept : err' ≡ err

-- the first sink has its whole text, and the second failed: it has a prefix of its text
pub record FailsAtErr (out_text err_text : List ℕ) (out out' err err' : SinkState) (result : Status) : Type 0 where
  pub status_is : result ≡ WriteFault
  pub out_whole : Appends out.written out'.written out_text
  pub out_untouched : IsUntouched out_text out out'
  pub err_rose : Rose err.faults err'.faults
  pub err_prefix : (n : ℕ) × Appends err.written err'.written (take n err_text)

-- the texts are put one after the other, and nothing is put after a fault; a fault of a sink is the status in place of any other
abbrev pub Delivers : Status → List ℕ → List ℕ → SinkState → SinkState → SinkState → SinkState → Status → Type 0
Delivers status out_text err_text out out' err err' result =
    IsWhole status out_text err_text out out' err err' result
    ⊎ (FailsAtOut out_text out out' err err' result ⊎ FailsAtErr out_text err_text out out' err err' result)

-- the sink has room for the text, where there is any
abbrev pub HasRoomFor : SinkState → List ℕ → Type 0
HasRoomFor sink [] = Unit {0}
HasRoomFor sink (byte ∷ text) = (room : ℕ) × (sink.guaranteed_room ≡ Some room) × (length (byte ∷ text) ≤ room)

-- the count of faults of a sink that gets this text does not fall, and stays where there is room for the text
pub record CountsFaults (text : List ℕ) (sink sink' : SinkState) : Type 0 where
  pub no_fall : sink.faults ≤ sink'.faults
  pub kept : HasRoomFor sink text → sink'.faults ≡ sink.faults
