-- The replies to queries: their promises and laws.
use Rattle.std.proofs.Common.{◌≡◌, ◌≢◌, ◌≤◌, ℕ, None, Some, refl, if◌then◌else◌}
use Rattle.protocol_model.specs.System.{SystemData}
use Rattle.protocol_model.specs.declared.system.Run.{Run}
use Rattle.protocol_search.specs.Analyses.{IsCounterexample}
use Rattle.protocol_search.specs.SearchLaws.{LargerBudgetKeepsVerdict, LargerBudgetKeepsText}
use Rattle.command_words.specs.declared.Query.{Query}
use Rattle.command_words.specs.declared.Query.TheVariants.{Check as ByCheck, Back as ByBack, Deadlock as ByDeadlock, Past as ByPast}
use Rattle.command_replies.specs.declared.status.Status.TheVariants.{Done, Unknown}
use Rattle.command_replies.specs.declared.reply.Reply.{Reply}
use Rattle.armc_commands.specs.declared.search_reply.Telling.TheVariants.{Certificate}
use Rattle.armc_commands.specs.Commands.Queries.{QueryReply, QueryPromise, check_telling}
use Rattle.armc_commands.specs.Commands.Searches.{search_for}
use Rattle.armc_commands.specs.ReplyLaws.{SameAnswer}
use Rattle.armc_commands.proofs.SearchLemmas.{SearchesKeep, part-of, certificate-promised, reply-stays}
use Rattle.armc_commands.proofs.BackLemmas.{back-promised}
use Rattle.armc_commands.proofs.DeadlockLemmas.{deadlock_promised}

-- each reply keeps what its query promises
pub query-promised : SearchesKeep → (query : Query) (budget : ℕ) (s : SystemData) (reply : Reply) → QueryReply query budget s reply → QueryPromise query budget s reply
query-promised keep (ByCheck settings) budget s reply h =
    certificate-promised keep s (search_for (ByCheck settings) budget) (if settings.report then Some settings.method else None)
    (λ v text shows. shows) (λ log. refl) reply h
query-promised keep ByBack budget s reply h = back-promised keep s budget reply h
query-promised keep ByDeadlock budget s reply h = deadlock_promised keep s budget reply h
query-promised keep (ByPast bound) budget s reply h =
    certificate-promised keep s (search_for (ByPast bound) budget) None (λ v text shows. shows) (λ log. refl) reply h

-- a larger budget keeps what is decided
module _ (keeps : LargerBudgetKeepsVerdict) (keeps-text : LargerBudgetKeepsText) where
  pub query-stays : (query : Query) (s : SystemData) (budget larger : ℕ) (one other : Reply) → budget ≤ larger → QueryReply query budget s one
      → one.status ≢ Unknown → QueryReply query larger s other → SameAnswer one other
  query-stays (ByCheck settings) s budget larger one other more h decided k =
      reply-stays keeps keeps-text (check_telling settings) (part-of s (search_for (ByCheck settings) budget)) larger one other more h decided k
  query-stays ByBack s budget larger one other more h decided k =
      reply-stays keeps keeps-text (Certificate None) (part-of s (search_for ByBack budget)) larger one other more h decided k
  query-stays ByDeadlock s budget larger one other more h decided k =
      reply-stays keeps keeps-text (Certificate None) (part-of s (search_for ByDeadlock budget)) larger one other more h decided k
  query-stays (ByPast bound) s budget larger one other more h decided k =
      reply-stays keeps keeps-text (Certificate None) (part-of s (search_for (ByPast bound) budget)) larger one other more h decided k

-- where there is a run that the query looks for, no reply keeps its promise and says that there is none
pub query-not-safe : (query : Query) (s : SystemData) (budget : ℕ) (run : Run) (reply : Reply) → IsCounterexample (search_for query budget).analysis s run → QueryPromise query budget s reply
    → reply.status ≡ Done → ⊥
query-not-safe (ByCheck settings) s budget run reply bad promise done = (promise.safe done).3 run bad
query-not-safe ByBack s budget run reply bad promise done = (promise.certificate.safe done).3 run bad
query-not-safe ByDeadlock s budget run reply stuck promise done = (promise.free done).3 run stuck
query-not-safe (ByPast bound) s budget run reply bad promise done = (promise.safe done).3 run bad
