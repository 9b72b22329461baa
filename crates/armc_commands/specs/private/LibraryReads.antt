-- What the reads of one call say of the state of the library.
use Rattle.std.specs.Prelude.{◌≡◌, ◌≤◌, ◌<◌, ℕ, List, length, true, false, IfSome, IsSome, Vec, Result, Ok, Err}
use Rattle.std.specs.declared.alloc.Global.{Global}
use Rattle.armc_io.specs.Faults.{Rose}
use Rattle.armc_io.specs.Library.{LibraryState, LastIs}
use Rattle.armc_io.specs.declared.traits.ReadFail.{ReadFail}
use Rattle.armc_io.specs.declared.traits.ReadFail.TheVariants as fail
use Rattle.command_replies.specs.declared.failure.Failure.{Failure}
use Rattle.command_replies.specs.declared.failure.Failure.TheVariants.{ReadFault, TooLong, Memory}
use Rattle.armc_commands.specs.Origin.{Told, Origin, named, given, generated, IsTextFrom}

-- the state comes before the other in one call: the same is told, and the count of faults did not fall
pub record IsEarlier (before now : LibraryState) : Type 0 where
  pub same_told : now.told ≡ before.told
  pub no_fall : before.faults ≤ now.faults

-- the library tells the text of this origin, where it is read at all
abbrev pub IsToldOrigin : Told → Origin → Type 0
IsToldOrigin told (named name limit) = IsSome (told name)
IsToldOrigin told (given text) = Unit {0}
IsToldOrigin told (generated number) = Unit {0}

-- the read of the text of this origin failed, and the count of faults rose
pub record FailsAt (old new : LibraryState) (origin : Origin) (name : List ℕ) : Type 0 where
  pub limit : ℕ
  pub origin_is : origin ≡ named name limit
  pub rose : Rose old.faults new.faults
  pub last : (taken : ℕ) × LastIs new name true taken

-- the text of this origin is longer than its limit
pub record IsLongerAt (old new : LibraryState) (origin : Origin) (name : List ℕ) : Type 0 where
  pub limit : ℕ
  pub origin_is : origin ≡ named name limit
  pub longer : IfSome (old.told name) (λ text. limit < length text)
  pub last : (taken : ℕ) × (limit < taken) × LastIs new name false taken

-- why the text of this origin was not read
abbrev pub IsFailureAt : LibraryState → LibraryState → Origin → Failure → Type 0
IsFailureAt old new origin (ReadFault name) = FailsAt old new origin name
IsFailureAt old new origin (TooLong name) = IsLongerAt old new origin name
IsFailureAt old new origin Memory = Unit {0}

-- the text of this origin, or why it was not read
abbrev pub GivesText : LibraryState → LibraryState → Origin → Result (Vec ℕ Global) Failure → Type 0
GivesText old new origin (Ok text) = IsTextFrom old.told origin text.items
GivesText old new origin (Err failure) = IsFailureAt old new origin failure

-- the failure of a read of the name that failed in this way
abbrev pub failure_of_read : List ℕ → ReadFail → Failure
failure_of_read name fail.Failed = ReadFault name
failure_of_read name fail.TooLong = TooLong name
failure_of_read name fail.Memory = Memory
