-- What `gen` searches, how it tells it, and what its reply promises.
use Rattle.std.specs.Prelude.{◌≡◌, ℕ, codes}
use Rattle.protocol_model.specs.System.{SystemData}
use Rattle.protocol_model.specs.declared.system.Run.{Run}
use Rattle.protocol_model.specs.Runs.{IsBadRun}
use Rattle.certificate_checker.specs.Proof.{IsSafe}
use Rattle.command_words.specs.Words.{default_budget}
use Rattle.search_history.specs.Histories.{log_of}
use Rattle.search_history.specs.declared.log.LogEnd.TheVariants.{Spent}
use Rattle.protocol_search.specs.Methods.{predicate_search}
use Rattle.protocol_search.specs.SystemHistories.{HistoryEnds}
use Rattle.protocol_search.specs.declared.search.Analysis.TheVariants.{Forward}
use Rattle.protocol_search.specs.declared.search.Search.{Search}
use Rattle.command_replies.specs.declared.status.Status.TheVariants as status
use Rattle.command_replies.specs.declared.reply.Reply.{Reply}
use Rattle.armc_commands.specs.declared.search_reply.Telling.TheVariants.{Summary}
use Rattle.command_replies.specs.Line.{line}
use Rattle.armc_commands.specs.SearchReply.{only_part, IsSearchReply}
use Rattle.armc_commands.specs.SearchPromise.{SearchPromise, IsStatusOfHistory}
use Rattle.armc_commands.specs.Summary.{search_lines}

-- the search by the default settings
abbrev pub default_search : Search
default_search = predicate_search Forward default_budget

abbrev pub IsGenerateReply : SystemData → ℕ → Reply → Type 0
IsGenerateReply s number reply = IsSearchReply (Summary number) (only_part s default_search) reply

-- the reply comes from its history, whose end is its status: at status 0 the system is safe, at status 1 it has a bad run, and at status 2 the summary has
-- the number of the history's rounds and its sum
pub record GeneratePromise (s : SystemData) (number : ℕ) (reply : Reply) : Type 0 where
  pub searched : SearchPromise (Summary number) (only_part s default_search) reply
  pub by_history : IsStatusOfHistory s default_search reply.status
  pub safe : reply.status ≡ status.Done → IsSafe s
  pub unsafe : reply.status ≡ status.Unsafe → (run : Run) × IsBadRun s run
  pub unknown : (sum : ℕ) (h : HistoryEnds s default_search Spent sum)
      → reply.out ≡ search_lines number (line (codes "verdict unknown")) (log_of default_budget h.rounds sum)
