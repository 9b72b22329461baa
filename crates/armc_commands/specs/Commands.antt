-- Each command in a line of each definition: where its two texts come from, its reply, and what the reply promises.
pub mod Back
pub mod CheckAll
pub mod Deadlock
pub mod Generate
pub mod Migrate
pub mod Queries
pub mod Searches
pub mod Show
pub mod Steps
pub mod Verify
use Rattle.std.specs.Prelude.{ℕ, List, []}
use Rattle.protocol_syntax.specs.declared.protocol.Protocol.{Protocol}
use Rattle.protocol_model.specs.Numbering.{system_of}
use Rattle.command_words.specs.Words.{Command, verify, migrate, steps, show, searching, checking_all, generate}
use Rattle.command_replies.specs.declared.reply.Reply.{Reply}
use Rattle.armc_commands.specs.Origin.{Origin, named, given, generated}
use Rattle.armc_commands.specs.Commands.CheckAll.{IsCheckAllReply, CheckAllPromise}
use Rattle.armc_commands.specs.Commands.Generate.{IsGenerateReply, GeneratePromise}
use Rattle.armc_commands.specs.Commands.Migrate.{IsMigrateReply, MigratePromise}
use Rattle.armc_commands.specs.Commands.Queries.{QueryReply, QueryPromise}
use Rattle.armc_commands.specs.Commands.Show.{IsShowReply}
use Rattle.armc_commands.specs.Commands.Steps.{IsStepsReply}
use Rattle.armc_commands.specs.Commands.Verify.{IsVerifyReply, VerifyPromise}

-- the most bytes that a text of a protocol or of properties may have, and that of a certificate
abbrev pub text_limit : ℕ
text_limit = 1048576

abbrev pub certificate_limit : ℕ
certificate_limit = 67108864

-- where the text of the command's protocol comes from
abbrev pub protocol_origin : Command → Origin
protocol_origin (verify file certificate) = named file text_limit
protocol_origin (migrate file certificate) = named file text_limit
protocol_origin (steps file configuration) = named file text_limit
protocol_origin (show file) = named file text_limit
protocol_origin (searching file query limits) = named file text_limit
protocol_origin (checking_all file properties limits) = named file text_limit
protocol_origin (generate number workers) = generated number

-- where the command's second text comes from: the certificate, the configuration, the properties, or no text
abbrev pub second_origin : Command → Origin
second_origin (verify file certificate) = named certificate certificate_limit
second_origin (migrate file certificate) = named certificate certificate_limit
second_origin (steps file configuration) = given configuration
second_origin (show file) = given []
second_origin (searching file query limits) = given []
second_origin (checking_all file properties limits) = named properties text_limit
second_origin (generate number workers) = given []

-- the reply of the command for this protocol, which has no fault, and this second text
abbrev pub CommandReply : Command → Protocol → List ℕ → Reply → Type 0
CommandReply (verify file certificate) p text reply = IsVerifyReply (system_of p) text reply
CommandReply (migrate file certificate) p text reply = IsMigrateReply (system_of p) text reply
CommandReply (steps file configuration) p text reply = IsStepsReply (system_of p) text reply
CommandReply (show file) p text reply = IsShowReply p reply
CommandReply (searching file query limits) p text reply = QueryReply query limits.budget (system_of p) reply
CommandReply (checking_all file properties limits) p text reply = IsCheckAllReply (system_of p) limits.budget text reply
CommandReply (generate number workers) p text reply = IsGenerateReply (system_of p) number reply

-- what the command promises of a reply
abbrev pub Promise : Command → Protocol → List ℕ → Reply → Type 0
Promise (verify file certificate) p text reply = VerifyPromise (system_of p) text reply
Promise (migrate file certificate) p text reply = MigratePromise (system_of p) text reply
Promise (steps file configuration) p text reply = Unit {0}
Promise (show file) p text reply = Unit {0}
Promise (searching file query limits) p text reply = QueryPromise query limits.budget (system_of p) reply
Promise (checking_all file properties limits) p text reply = CheckAllPromise (system_of p) limits.budget text reply
Promise (generate number workers) p text reply = GeneratePromise (system_of p) number reply
