-- What a call comes to, and exactly when: a reply, a read that failed, a text that is too long, or running out of memory.
use Rattle.std.specs.Prelude.{◌≡◌, ◌<◌, ◌⊎◌, ℕ, List, length, true, false, Some, None, IfSome, IsSome, IsTrue, Result, Ok, Err, codes}
use Rattle.armc_io.specs.Faults.{Rose}
use Rattle.armc_io.specs.Library.{LibraryState, LastIs}
use Rattle.protocol_syntax.specs.declared.protocol.Protocol.{Protocol}
use Rattle.command_words.specs.Words.{Command, command_of}
use Rattle.command_replies.specs.declared.refusal.Refusal.{Refusal}
use Rattle.command_replies.specs.declared.status.Status.TheVariants.{ProtocolRefused}
use Rattle.command_replies.specs.declared.reply.Reply.{Reply}
use Rattle.command_replies.specs.declared.failure.Failure.{Failure}
use Rattle.command_replies.specs.declared.failure.Failure.TheVariants.{ReadFault, TooLong, Memory}
use Rattle.armc_commands.specs.Origin.{Told, IsTextFrom, named}
use Rattle.command_replies.specs.Reading.{IsFaultless}
use Rattle.command_replies.specs.Refusal.{IsRefusalOf}
use Rattle.command_replies.specs.Reply.{usage, refusal_reply}
use Rattle.armc_commands.specs.Commands.{protocol_origin, second_origin, CommandReply}

-- the command's first text says this protocol, which has no fault
pub record HasProtocol (told : Told) (command : Command) (p : Protocol) : Type 0 where
  pub text : List ℕ
  pub is_text : IsTextFrom told (protocol_origin command) text
  pub says : IsFaultless text p

-- the first fault of the command's first text is told
pub record RefusesProtocol (told : Told) (command : Command) (reply : Reply) : Type 0 where
  pub refusal : Refusal
  pub text : List ℕ
  pub is_text : IsTextFrom told (protocol_origin command) text
  pub refused : IsRefusalOf text refusal
  pub reply_is : reply ≡ refusal_reply (codes "protocol") ProtocolRefused refusal

-- the command was carried out for its protocol and its second text
pub record CarriesOut (told : Told) (command : Command) (reply : Reply) : Type 0 where
  pub protocol : Protocol
  pub text : List ℕ
  pub has_protocol : HasProtocol told command protocol
  pub is_text : IsTextFrom told (second_origin command) text
  pub replies : CommandReply command protocol text reply

-- the words are a command, and its reply is this
pub record RepliesToCommand (words : List (List ℕ)) (told : Told) (reply : Reply) : Type 0 where
  pub command : Command
  pub asked : command_of words ≡ Some command
  pub replies : RefusesProtocol told command reply ⊎ CarriesOut told command reply

-- the reply to the words: they are no command, or the first fault of the protocol's text is told, or the command was carried out
abbrev pub IsReply : List (List ℕ) → Told → Reply → Type 0
IsReply words told reply = ((command_of words ≡ None) × (reply ≡ usage)) ⊎ RepliesToCommand words told reply

-- the name is that of the first text, or that of the second and the first has a protocol; the limit is that of the name's text
abbrev pub IsRead : Told → Command → List ℕ → ℕ → Type 0
IsRead told command name limit =
    (protocol_origin command ≡ named name limit)
    ⊎ ((second_origin command ≡ named name limit) × ((p : Protocol) × HasProtocol told command p))

-- the words are a command that reads this name with this limit
pub record ReadsName (words : List (List ℕ)) (told : Told) (name : List ℕ) (limit : ℕ) : Type 0 where
  pub command : Command
  pub asked : command_of words ≡ Some command
  pub is_read : IsRead told command name limit

-- the library tells every text that the words read
abbrev pub TellsTexts : List (List ℕ) → Told → Type 0
TellsTexts words told = (name : List ℕ) (limit : ℕ) → ReadsName words told name limit → IsSome (told name)

-- the library tells every text that the words read, and a read of a told name never fails
pub record IsReliableFor (words : List (List ℕ)) (library : LibraryState) : Type 0 where
  pub reliable : IsTrue library.is_reliable
  pub tells : TellsTexts words library.told

-- the library's last call was on the name and failed, and its count of faults rose
pub record IsReadFault (words : List (List ℕ)) (old new : LibraryState) (name : List ℕ) : Type 0 where
  pub limit : ℕ
  pub reads : ReadsName words old.told name limit
  pub rose : Rose old.faults new.faults
  pub last : (taken : ℕ) × LastIs new name true taken

-- the text of the name, where it is told, is longer than its limit
pub record IsToldTooLong (words : List (List ℕ)) (told : Told) (name : List ℕ) (limit : ℕ) : Type 0 where
  pub reads : ReadsName words told name limit
  pub longer : IfSome (told name) (λ text. limit < length text)

-- the same, and the library's last call was on the name and took more than the limit
pub record IsTooLong (words : List (List ℕ)) (old new : LibraryState) (name : List ℕ) : Type 0 where
  pub limit : ℕ
  pub told_so : IsToldTooLong words old.told name limit
  pub last : (taken : ℕ) × (limit < taken) × LastIs new name false taken

-- what a call comes to, over a library with this state before and after; running out of memory may come at any point
abbrev pub IsOutcome : List (List ℕ) → LibraryState → LibraryState → Result Reply Failure → Type 0
IsOutcome words old new (Ok reply) = IsReply words old.told reply
IsOutcome words old new (Err (ReadFault name)) = IsReadFault words old new name
IsOutcome words old new (Err (TooLong name)) = IsTooLong words old new name
IsOutcome words old new (Err Memory) = Unit {0}

-- what the words and the told texts decide, and running out of memory
abbrev pub IsDecidedBy : List (List ℕ) → Told → Result Reply Failure → Type 0
IsDecidedBy words told (Ok reply) = IsReply words told reply
IsDecidedBy words told (Err (ReadFault name)) = ⊥
IsDecidedBy words told (Err (TooLong name)) = (limit : ℕ) × IsToldTooLong words told name limit
IsDecidedBy words told (Err Memory) = Unit {0}
