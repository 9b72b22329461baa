-- What the reply of `deadlock` promises.
use Rattle.std.specs.Prelude.{◌≡◌, ℕ, List, None, codes}
use Rattle.word_automata.specs.Automaton.{Automaton}
use Rattle.protocol_model.specs.declared.system.Run.{Run}
use Rattle.protocol_model.specs.System.{SystemData}
use Rattle.certificate_writing.specs.Writing.{automaton_text, run_text, counted_text}
use Rattle.command_words.specs.declared.Query.TheVariants.{Deadlock}
use Rattle.search_history.specs.declared.log.LogEnd.TheVariants.{Spent}
use Rattle.protocol_search.specs.Deadlocks.{IsDeadlock, IsDeadlockFree, ProvesDeadlockFree}
use Rattle.protocol_search.specs.SystemHistories.{HistoryEnds}
use Rattle.command_replies.specs.declared.status.Status.TheVariants as status
use Rattle.command_replies.specs.declared.reply.Reply.{Reply}
use Rattle.armc_commands.specs.declared.search_reply.Telling.TheVariants.{Certificate}
use Rattle.armc_commands.specs.SearchReply.{only_part}
use Rattle.armc_commands.specs.SearchPromise.{SearchPromise, IsStatusOfHistory}
use Rattle.armc_commands.specs.Commands.Searches.{search_for}

-- the text is that of an automaton that proves that there is no deadlock, and no run ends in one
abbrev pub ShowsDeadlockFree : SystemData → List ℕ → Type 0
ShowsDeadlockFree s text = (m : Automaton) × (text ≡ automaton_text (codes "deadlock free") s m) × ProvesDeadlockFree s m × IsDeadlockFree s

-- the text is that of a run that ends in a deadlock
abbrev pub ShowsDeadlock : SystemData → List ℕ → Type 0
ShowsDeadlock s text = (run : Run) × (text ≡ run_text (codes "deadlock") s run) × IsDeadlock s run

-- the reply comes from its history, whose end is its status: at status 0 its text shows that there is no deadlock, at status 1 it shows a run to one, and
-- at status 2 it has the sum of the history and the budget
pub record DeadlockPromise (s : SystemData) (budget : ℕ) (reply : Reply) : Type 0 where
  pub searched : SearchPromise (Certificate None) (only_part s (search_for Deadlock budget)) reply
  pub by_history : IsStatusOfHistory s (search_for Deadlock budget) reply.status
  pub free : reply.status ≡ status.Done → ShowsDeadlockFree s reply.out
  pub found : reply.status ≡ status.Unsafe → ShowsDeadlock s reply.out
  pub unknown : (sum : ℕ) → HistoryEnds s (search_for Deadlock budget) Spent sum → reply.out ≡ counted_text (codes "unknown") sum budget
