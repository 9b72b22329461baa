-- Laws of the replies of commands that search, and of all replies to commands.
use Rattle.std.specs.Prelude.{◌≡◌, ◌≢◌, ◌≤◌, ◌⊎◌, ℕ, List, [], ◌∷◌, None, Some, Result, Err}
use Rattle.protocol_syntax.specs.declared.protocol.Protocol.{Protocol}
use Rattle.protocol_model.specs.declared.system.Run.{Run}
use Rattle.protocol_model.specs.Numbering.{system_of}
use Rattle.protocol_search.specs.Analyses.{IsCounterexample}
use Rattle.command_words.specs.Words.{Command, command_of, searching, checking_all, generate}
use Rattle.command_words.specs.declared.Limits.{Limits}
use Rattle.command_words.specs.declared.Query.{Query}
use Rattle.command_replies.specs.declared.status.Status.TheVariants.{Done, Unsafe, Unknown, ProtocolRefused}
use Rattle.command_replies.specs.declared.reply.Reply.{Reply}
use Rattle.command_replies.specs.declared.failure.Failure.{Failure}
use Rattle.command_replies.specs.declared.failure.Failure.TheVariants.{Memory}
use Rattle.command_replies.specs.Reply.{reply_of}
use Rattle.armc_commands.specs.declared.search_reply.Telling.TheVariants.{Certificate}
use Rattle.armc_commands.specs.SearchReply.{Part, PartAnswer, status_of, reply_of_answers}
use Rattle.armc_commands.specs.Commands.{CommandReply, Promise, second_origin}
use Rattle.armc_commands.specs.Commands.Searches.{search_for}
use Rattle.armc_commands.specs.Origin.{Told, IsTextFrom}
use Rattle.armc_commands.specs.Outcome.{HasProtocol, RefusesProtocol, TellsTexts, IsReply, IsDecidedBy}

-- the same command with one worker
abbrev pub with_one_worker : Command → Command
with_one_worker (searching file query limits) = searching file query (record limits { workers = 1 })
with_one_worker (checking_all file properties limits) = checking_all file properties (record limits { workers = 1 })
with_one_worker (generate number workers) = generate number 1
with_one_worker command = command

-- both lists of words mean commands, which differ in the number of workers alone
pub record DifferInWorkers (words others : List (List ℕ)) : Type 0 where
  pub command : Command
  pub other : Command
  pub asked : command_of words ≡ Some command
  pub asked_too : command_of others ≡ Some other
  pub same : with_one_worker other ≡ with_one_worker command

-- what words decide whose commands differ in the number of workers alone is the same, unless memory runs out
abbrev pub WorkersKeepReply : List (List ℕ) → Told → Type 0
WorkersKeepReply words told =
    (others : List (List ℕ)) (outcome other : Result Reply Failure) → DifferInWorkers words others → TellsTexts words told
    → IsDecidedBy words told outcome → IsDecidedBy others told other → outcome ≢ Err Memory → other ≢ Err Memory → outcome ≡ other

-- the same limits with another budget
abbrev pub limited_to : ℕ → Limits → Limits
limited_to budget limits = record limits { budget = budget }

-- both lists of words ask for one search of one file, the second within a larger budget
pub record AskForLargerBudget (words others : List (List ℕ)) : Type 0 where
  pub file : List ℕ
  pub query : Query
  pub limits : Limits
  pub larger : ℕ
  pub asked : command_of words ≡ Some (searching file query limits)
  pub asked_too : command_of others ≡ Some (searching file query (limited_to larger limits))
  pub more : limits.budget ≤ larger

-- the status and the text on standard output are the same
pub record SameAnswer (one other : Reply) : Type 0 where
  pub status : other.status ≡ one.status
  pub out : other.out ≡ one.out

-- an answer to a search that decides, with status 0 or 1, has the same status and the same certificate for every larger budget, unless memory runs out
abbrev pub LargerBudgetKeepsReply : List (List ℕ) → Told → Type 0
LargerBudgetKeepsReply words told =
    (others : List (List ℕ)) (outcome other : Result Reply Failure) → AskForLargerBudget words others → TellsTexts words told
    → IsDecidedBy words told outcome → ((reply_of outcome).status ≡ Done) ⊎ ((reply_of outcome).status ≡ Unsafe)
    → IsDecidedBy others told other → other ≢ Err Memory → SameAnswer (reply_of outcome) (reply_of other)

-- the same of `checkall`
pub record AskForAllWithLargerBudget (words others : List (List ℕ)) : Type 0 where
  pub file : List ℕ
  pub properties : List ℕ
  pub limits : Limits
  pub larger : ℕ
  pub asked : command_of words ≡ Some (checking_all file properties limits)
  pub asked_too : command_of others ≡ Some (checking_all file properties (limited_to larger limits))
  pub more : limits.budget ≤ larger

-- the status and the text are the same
pub record SamePart (one other : PartAnswer) : Type 0 where
  pub status : status_of (other.verdict ∷ []) ≡ status_of (one.verdict ∷ [])
  pub text : other.text ≡ one.text

-- there are as many answers, and each of the first that is not unknown has the same status and the same text among the second
abbrev pub AreKept : List PartAnswer → List PartAnswer → Type 0
AreKept [] [] = Unit {0}
AreKept [] (other ∷ more) = ⊥
AreKept (one ∷ answers) [] = ⊥
AreKept (one ∷ answers) (other ∷ more) = (status_of (one.verdict ∷ []) ≢ Unknown → SamePart one other) × AreKept answers more

-- the replies tell answers to the same parts, of which each that is not unknown is kept; so is a status 0 or 1, and at status 0 the whole text
pub record KeepsParts (one other : Reply) : Type 0 where
  pub parts : List Part
  pub answers : List PartAnswer
  pub more : List PartAnswer
  pub one_is : one ≡ reply_of_answers (Certificate None) parts answers
  pub other_is : other ≡ reply_of_answers (Certificate None) parts more
  pub kept : AreKept answers more
  pub status : one.status ≢ Unknown → other.status ≡ one.status
  pub out : one.status ≡ Done → other.out ≡ one.out

-- within a larger budget `checkall` tells the same first fault, or keeps each part that decides
abbrev pub LargerBudgetKeepsParts : List (List ℕ) → Told → Type 0
LargerBudgetKeepsParts words told =
    (others : List (List ℕ)) (one other : Reply) → AskForAllWithLargerBudget words others → TellsTexts words told
    → IsReply words told one → IsReply others told other → (one ≡ other) ⊎ KeepsParts one other

-- where the protocol has a run that the query looks for, a bad one or one into a deadlock, of any number of steps, no reply says that there is none
abbrev pub BadRunRulesOutSafe : Type 0
BadRunRulesOutSafe =
    (file : List ℕ) (query : Query) (limits : Limits) (p : Protocol) (text : List ℕ) (run : Run) (reply : Reply) → IsCounterexample (search_for query limits.budget).analysis (system_of p) run
    → CommandReply (searching file query limits) p text reply → reply.status ≢ Done

-- the command's two texts, and that the reply keeps what the command promises of them
pub record KeepsItsPromise (told : Told) (command : Command) (reply : Reply) : Type 0 where
  pub protocol : Protocol
  pub text : List ℕ
  pub has_protocol : HasProtocol told command protocol
  pub is_text : IsTextFrom told (second_origin command) text
  pub promised : Promise command protocol text reply

-- the reply that the words of a command and the told texts decide tells the first fault of the protocol, or keeps what the command promises
abbrev pub RepliesKeepPromises : Type 0
RepliesKeepPromises =
    (words : List (List ℕ)) (told : Told) (command : Command) (reply : Reply) → command_of words ≡ Some command → IsReply words told reply
    → RefusesProtocol told command reply ⊎ KeepsItsPromise told command reply

-- no reply to `gen` refuses its protocol
abbrev pub GenerateIsNeverRefused : Type 0
GenerateIsNeverRefused =
    (words : List (List ℕ)) (told : Told) (number workers : ℕ) (reply : Reply) → command_of words ≡ Some (generate number workers)
    → IsReply words told reply → reply.status ≢ ProtocolRefused
