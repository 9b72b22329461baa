-- What the reply of a command that searches promises: each part comes from the one history of its search with all its bounds, and what it tells is
-- true.
use Rattle.std.specs.Prelude.{◌≡◌, ◌↔◌, ℕ, List, [], ◌∷◌, length, codes}
use Rattle.std.specs.List.{AllByRecursion}
use Rattle.word_automata.specs.Automaton.{Automaton}
use Rattle.protocol_model.specs.declared.system.Run.{Run}
use Rattle.protocol_model.specs.System.{SystemData}
use Rattle.protocol_model.specs.Runs.{IsBadRun}
use Rattle.certificate.specs.SafeText.{MeansAutomaton}
use Rattle.certificate.specs.RunText.{MeansRun}
use Rattle.certificate_writing.specs.Writing.{unknown_text, counted_text}
use Rattle.certificate_checker.specs.Proof.{Proves, IsSafe}
use Rattle.search_history.specs.Histories.{log_of}
use Rattle.search_history.specs.declared.log.Log.{Log}
use Rattle.search_history.specs.declared.log.LogEnd.TheVariants.{Closed, Real, Spent}
use Rattle.refinement.specs.Bounds.{HoldOfRounds}
use Rattle.refinement.specs.Exclusion.{AreRefutedOnce}
use Rattle.refinement.specs.Verdicts.{IsSound, log_in}
use Rattle.refinement.specs.declared.verdict.Verdict.{Verdict}
use Rattle.refinement.specs.declared.verdict.Verdict.TheVariants.{Unknown}
use Rattle.protocol_search.specs.Analyses.{task_for, searched_task, proof_limit, IsCounterexample, VerdictShows, TextShows}
use Rattle.protocol_search.specs.Methods.{search_method, first_key, IsByPredicates}
use Rattle.protocol_search.specs.SystemHistories.{HistoryEnds, IsFromHistory, IsBoundedByKey, IsWithin}
use Rattle.protocol_search.specs.Verdicts.{end_of}
use Rattle.protocol_search.specs.declared.search.Analysis.{Analysis}
use Rattle.protocol_search.specs.declared.search.Analysis.TheVariants.{Forward, Backward, Stuck}
use Rattle.protocol_search.specs.declared.search.Search.{Search}
use Rattle.command_replies.specs.declared.status.Status.{Status}
use Rattle.command_replies.specs.declared.status.Status.TheVariants as status
use Rattle.command_replies.specs.declared.reply.Reply.{Reply}
use Rattle.armc_commands.specs.declared.search_reply.Telling.{Telling}
use Rattle.armc_commands.specs.declared.search_reply.Telling.TheVariants as telling
use Rattle.armc_commands.specs.SearchReply.{Part, PartAnswer, only_part, IsAnswerTo, HoldsOfParts, status_of, reply_of_answers}
use Rattle.armc_commands.specs.Summary.{summary}

-- the log and the end of the verdict are those of the history of its search: by predicates, no two rounds refute one language; the merged automata of
-- each round grow, and where states have signatures its key bounds their number; no round has an index above the number of steps of a counterexample,
-- and where there is one none ends closed
pub record ComesFromHistory (s : SystemData) (search : Search) (v : Verdict) : Type 0 where
  pub comes : IsFromHistory s search (log_in v) (end_of v)
  pub refuted_once : IsByPredicates search.first → AreRefutedOnce comes.ended.rounds
  pub bounded_by_keys : HoldOfRounds (search_method search.first) (IsBoundedByKey (searched_task search.analysis s).letters search.first)
      (first_key search.first comes.ended.history.bad) comes.ended.rounds
  pub bounded_by_runs : (run : Run) → IsCounterexample search.analysis s run → AllByRecursion (IsWithin (length run.steps)) comes.ended.rounds

-- the status is 0, 1 and 2 exactly where the one history of the search for the system ends closed, real and spent
pub record IsStatusOfHistory (s : SystemData) (search : Search) (result : Status) : Type 0 where
  pub done : (result ≡ status.Done) ↔ ((sum : ℕ) × HistoryEnds s search Closed sum)
  pub unsafe : (result ≡ status.Unsafe) ↔ ((sum : ℕ) × HistoryEnds s search Real sum)
  pub unknown : (result ≡ status.Unknown) ↔ ((sum : ℕ) × HistoryEnds s search Spent sum)

-- the text that tells that a search with this log is spent: it has the sum and the budget, or it is the summary of the chain of some number
abbrev pub spent_text : Telling → Analysis → Log → List ℕ
spent_text (telling.Certificate report) Forward log = unknown_text log.counted log.budget
spent_text (telling.Certificate report) Backward log = unknown_text log.counted log.budget
spent_text (telling.Certificate report) Stuck log = counted_text (codes "unknown") log.counted log.budget
spent_text (telling.Summary number) analysis log = summary number (Unknown log)

-- what the text of an answer shows: a certificate means a proof or a counterexample
abbrev pub ToldShows : Telling → Part → PartAnswer → Type 0
ToldShows (telling.Certificate report) part answer = TextShows part.search.analysis part.system answer.verdict answer.text
ToldShows (telling.Summary number) part answer = Unit {0}

-- what the answer to a part promises; a proof has fewer states than the budget of the search, and backward at most as many
pub record PartPromise (told : Telling) (part : Part) (answer : PartAnswer) : Type 0 where
  pub is_answer : IsAnswerTo told part answer
  pub searched : ComesFromHistory part.system part.search answer.verdict
  pub by_history : IsStatusOfHistory part.system part.search (status_of (answer.verdict ∷ []))
  pub unknown : (sum : ℕ) (h : HistoryEnds part.system part.search Spent sum)
      → answer.text ≡ spent_text told part.search.analysis (log_of part.search.budget h.rounds sum)
  pub sound : IsSound (task_for part.search.analysis part.system) (proof_limit part.search.analysis part.search.budget) answer.verdict
  pub shows : VerdictShows part.search.analysis part.system answer.verdict
  pub text_shows : ToldShows told part answer

pub record SearchPromise (told : Telling) (parts : List Part) (reply : Reply) : Type 0 where
  pub answers : List PartAnswer
  pub promised : HoldsOfParts (PartPromise told) parts answers
  pub reply_is : reply ≡ reply_of_answers told parts answers

-- the text means an automaton that proves the system, and no run is bad
abbrev pub ShowsSafe : SystemData → List ℕ → Type 0
ShowsSafe s text = (m : Automaton) × MeansAutomaton s text m × Proves s m × IsSafe s

-- the text means a bad run
abbrev pub ShowsUnsafe : SystemData → List ℕ → Type 0
ShowsUnsafe s text = (run : Run) × MeansRun s text run × IsBadRun s run

-- the reply to a search, which is a certificate, comes from its history, whose end is its status: at status 0 its text shows the system safe, at
-- status 1 it shows a bad run, and at status 2 it has the sum of the history and the budget
pub record CertificatePromise (s : SystemData) (told : Telling) (search : Search) (reply : Reply) : Type 0 where
  pub searched : SearchPromise told (only_part s search) reply
  pub by_history : IsStatusOfHistory s search reply.status
  pub safe : reply.status ≡ status.Done → ShowsSafe s reply.out
  pub unsafe : reply.status ≡ status.Unsafe → ShowsUnsafe s reply.out
  pub unknown : (sum : ℕ) → HistoryEnds s search Spent sum → reply.out ≡ unknown_text sum search.budget
