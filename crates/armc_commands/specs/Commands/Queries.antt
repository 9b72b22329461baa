-- How the verdict on each query is told, its reply, and what the reply promises.
use Rattle.std.specs.Prelude.{ℕ, None, Some, if◌then◌else◌}
use Rattle.protocol_model.specs.System.{SystemData}
use Rattle.command_words.specs.declared.Query.{Query}
use Rattle.command_words.specs.declared.Query.TheVariants.{Check, Back, Deadlock, Past}
use Rattle.command_words.specs.declared.Settings.{Settings}
use Rattle.command_replies.specs.declared.reply.Reply.{Reply}
use Rattle.armc_commands.specs.declared.search_reply.Telling.{Telling}
use Rattle.armc_commands.specs.declared.search_reply.Telling.TheVariants.{Certificate}
use Rattle.armc_commands.specs.SearchReply.{only_part, IsSearchReply}
use Rattle.armc_commands.specs.SearchPromise.{CertificatePromise}
use Rattle.armc_commands.specs.Commands.Back.{BackPromise}
use Rattle.armc_commands.specs.Commands.Deadlock.{DeadlockPromise}
use Rattle.armc_commands.specs.Commands.Searches.{search_for}

-- `check` is told by its certificate, with the report where it is asked for
abbrev pub check_telling : Settings → Telling
check_telling settings = Certificate (if settings.report then Some settings.method else None)

-- how the verdict is told
abbrev pub telling_of : Query → Telling
telling_of (Check settings) = check_telling settings
telling_of Back = Certificate None
telling_of Deadlock = Certificate None
telling_of (Past bound) = Certificate None

-- the reply to a query of the system within the budget
abbrev pub QueryReply : Query → ℕ → SystemData → Reply → Type 0
QueryReply query budget s reply = IsSearchReply (telling_of query) (only_part s (search_for query budget)) reply

-- what it promises
abbrev pub QueryPromise : Query → ℕ → SystemData → Reply → Type 0
QueryPromise (Check settings) budget s reply = CertificatePromise s (check_telling settings) (search_for (Check settings) budget) reply
QueryPromise Back budget s reply = BackPromise s budget reply
QueryPromise Deadlock budget s reply = DeadlockPromise s budget reply
QueryPromise (Past bound) budget s reply = CertificatePromise s (Certificate None) (search_for (Past bound) budget) reply
