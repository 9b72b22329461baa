-- What a whole call answers.
use Rattle.std.specs.Prelude.{◌≡◌, ◌<◌, ◌≤◌, ℕ, Bool, true, false, List, Some, Result, IsTrue}
use Rattle.armc_io.specs.Faults.{Rose, last_count}
use Rattle.armc_io.specs.Library.{LibraryState}
use Rattle.armc_io.specs.Sink.{SinkState}
use Rattle.protocol_syntax.specs.declared.protocol.Protocol.{Protocol}
use Rattle.command_words.specs.Words.{Command, command_of}
use Rattle.command_replies.specs.declared.status.Status.{Status}
use Rattle.command_replies.specs.declared.status.Status.TheVariants.{ReadFault, ProtocolRefused, WriteFault, Memory}
use Rattle.command_replies.specs.declared.reply.Reply.{Reply}
use Rattle.command_replies.specs.declared.failure.Failure.{Failure}
use Rattle.armc_commands.specs.Origin.{Told, IsTextFrom}
use Rattle.command_replies.specs.Reply.{reply_of}
use Rattle.armc_commands.specs.Commands.{second_origin, Promise}
use Rattle.armc_commands.specs.Outcome.{HasProtocol, IsOutcome, IsDecidedBy, IsReliableFor}
use Rattle.command_replies.specs.Delivery.{Delivers, IsWhole, HasRoomFor, CountsFaults}

-- the texts of the reply reach the sinks
abbrev pub DeliversReply : Reply → SinkState → SinkState → SinkState → SinkState → Status → Type 0
DeliversReply reply out out' err err' result = Delivers reply.status reply.out reply.err out out' err err' result

-- the texts of the reply reach the sinks, whose counts of faults say so
pub record DeliversCounted (reply : Reply) (out out' err err' : SinkState) (result : Status) : Type 0 where
  pub delivered : DeliversReply reply out out' err err' result
  pub out_faults : CountsFaults reply.out out out'
  pub err_faults : CountsFaults reply.err err err'

-- the texts of the reply reach the sinks whole
abbrev pub IsWholeReply : Reply → SinkState → SinkState → SinkState → SinkState → Status → Type 0
IsWholeReply reply out out' err err' result = IsWhole reply.status reply.out reply.err out out' err err' result

-- what the call came to, and its texts reach the sinks
pub record Answers (words : List (List ℕ)) (library library' : LibraryState) (out out' err err' : SinkState) (result : Status) : Type 0 where
  pub outcome : Result Reply Failure
  pub is_outcome : IsOutcome words library library' outcome
  pub delivered : DeliversReply (reply_of outcome) out out' err err' result

-- the status is that of a command that was carried out
abbrev pub is_own : Status → Bool
is_own ReadFault = false
is_own ProtocolRefused = false
is_own WriteFault = false
is_own Memory = false
is_own _ = true

-- the texts of a reply are whole, which the command promises of its protocol and its second text
pub record KeepsPromise (told : Told) (command : Command) (out out' err err' : SinkState) (result : Status) : Type 0 where
  pub protocol : Protocol
  pub text : List ℕ
  pub reply : Reply
  pub has_protocol : HasProtocol told command protocol
  pub is_text : IsTextFrom told (second_origin command) text
  pub promised : Promise command protocol text reply
  pub whole : IsWholeReply reply out out' err err' result

-- where the words are a command and the status is its own, what the command promises holds
abbrev pub IsSound : List (List ℕ) → Told → SinkState → SinkState → SinkState → SinkState → Status → Type 0
IsSound words told out out' err err' result =
    (command : Command) → command_of words ≡ Some command → IsTrue (is_own result) → KeepsPromise told command out out' err err' result

-- no count of faults rose
pub record IsQuiet (library library' : LibraryState) (out out' err err' : SinkState) : Type 0 where
  pub library_quiet : Rose library.faults library'.faults → ⊥
  pub out_quiet : Rose out.faults out'.faults → ⊥
  pub err_quiet : Rose err.faults err'.faults → ⊥

-- the library tells every text that the words read, a read of a told name never fails, and each sink has room for its text of
-- whatever the words and the told texts decide; no count of faults stands at its last value
pub record AreQuietEnds (words : List (List ℕ)) (library : LibraryState) (out err : SinkState) : Type 0 where
  pub library_reliable : IsReliableFor words library
  pub out_room : (outcome : Result Reply Failure) → IsDecidedBy words library.told outcome → HasRoomFor out (reply_of outcome).out
  pub err_room : (outcome : Result Reply Failure) → IsDecidedBy words library.told outcome → HasRoomFor err (reply_of outcome).err
  pub library_below : library.faults < last_count
  pub out_below : out.faults < last_count
  pub err_below : err.faults < last_count

-- no count of faults falls
pub record KeepsCounts (library library' : LibraryState) (out out' err err' : SinkState) : Type 0 where
  pub library_count : library.faults ≤ library'.faults
  pub out_count : out.faults ≤ out'.faults
  pub err_count : err.faults ≤ err'.faults

-- both texts are whole, and the words and the told texts decide them, or they say that memory ran out
pub record IsDecided (words : List (List ℕ)) (told : Told) (out out' err err' : SinkState) (result : Status) : Type 0 where
  pub outcome : Result Reply Failure
  pub is_decided : IsDecidedBy words told outcome
  pub whole : IsWholeReply (reply_of outcome) out out' err err' result
