-- The history of the search for a system, and laws of its rounds.
use Rattle.std.specs.Prelude.{◌≡◌, ◌≢◌, ◌≤◌, ◌+◌, ◌^◌, ℕ, List, None, Some, IfSome, length}
use Rattle.std.specs.List.{last_or, AllByRecursion}
use Rattle.word_automata.specs.Automaton.{Automaton}
use Rattle.protocol_model.specs.declared.system.Run.{Run}
use Rattle.protocol_model.specs.System.{SystemData}
use Rattle.safety_problem.specs.Task.{IsAutomatonOf}
use Rattle.abstraction.specs.Merging.{Key}
use Rattle.abstraction.specs.Signatures.{fact_count, width}
use Rattle.search_history.specs.Histories.{SearchRound, History, log_of}
use Rattle.search_history.specs.declared.log.LogEnd.{LogEnd}
use Rattle.search_history.specs.declared.log.LogEnd.TheVariants.{Closed}
use Rattle.search_history.specs.declared.log.Log.{Log}
use Rattle.search_history.specs.declared.log.RoundLog.{RoundLog}
use Rattle.fixpoint.specs.Laws.{AreGrowing}
use Rattle.refinement.specs.Bounds.{HoldOfRounds}
use Rattle.refinement.specs.Exclusion.{AreRefutedOnce}
use Rattle.refinement.specs.Verdicts.{log_in}
use Rattle.refinement.specs.declared.verdict.Verdict.{Verdict}
use Rattle.protocol_search.specs.Analyses.{searched_task, IsCounterexample}
use Rattle.protocol_search.specs.Methods.{search_method, first_key, IsByPredicates, signature_length}
use Rattle.protocol_search.specs.Verdicts.{IsVerdictOf, end_of}
use Rattle.protocol_search.specs.declared.first.FirstAbstraction.{FirstAbstraction}
use Rattle.protocol_search.specs.declared.search.Search.{Search}

-- the rounds of the search for the system, and the sum of their counted states; the first key of predicates of the bad words is the canonical
-- automaton of the bad words of the rounds' problem
pub record IsHistoryOf (s : SystemData) (search : Search) (rounds : List SearchRound) (sum : ℕ) : Type 0 where
  pub bad : Automaton
  pub is_bad : IsAutomatonOf (searched_task search.analysis s).letters (searched_task search.analysis s).is_bad bad
  pub history : History (searched_task search.analysis s) (search_method search.first) search.budget (first_key search.first bad) 0 rounds sum

-- the history of the search for the system ends so, with this sum of counted states
pub record HistoryEnds (s : SystemData) (search : Search) (end : LogEnd) (sum : ℕ) : Type 0 where
  pub rounds : List SearchRound
  pub history : IsHistoryOf s search rounds sum
  pub last_round : SearchRound
  pub is_last : last_or None rounds ≡ Some last_round
  pub ends : last_round.end ≡ end

-- the log and the end of the search are those of its history: the sizes of the automata of its rounds with their sum, and the end of the last round
pub record IsFromHistory (s : SystemData) (search : Search) (log : Log) (end : LogEnd) : Type 0 where
  pub sum : ℕ
  pub ended : HistoryEnds s search end sum
  pub log_is : log ≡ log_of search.budget ended.rounds sum

-- the merged automata of the round grow; and where states have signatures, they are at most as many as there are sets of facts that automata over so
-- many letters can have by the key
abbrev pub IsBoundedByKey : ℕ → FirstAbstraction → Key → SearchRound → Type 0
IsBoundedByKey letters first key round =
    AreGrowing round.m × IfSome (signature_length first letters key) (λ tests. length round.m ≤ 2 ^ fact_count letters (width tests))

-- the round has no index above n, since its automata before merging have the indices from 0 on, and does not end closed
abbrev pub IsWithin : ℕ → SearchRound → Type 0
IsWithin n round = (length round.n ≤ n + 1) × (round.end ≢ Closed)

-- the same of the log of a round: the level is the index of its last counted automaton
pub record HasIndicesUpTo (n : ℕ) (round : RoundLog) : Type 0 where
  pub listed : length round.n ≤ n + 1
  pub level : round.level ≤ n

-- each verdict comes from the history
abbrev pub VerdictsHaveHistories : Type 0
VerdictsHaveHistories = (s : SystemData) (search : Search) (v : Verdict) → IsVerdictOf s search v → IsFromHistory s search (log_in v) (end_of v)

-- and from no other: every history of the search ends as the verdict says, and its log is that of the verdict
abbrev pub VerdictsAreOfHistories : Type 0
VerdictsAreOfHistories =
    (s : SystemData) (search : Search) (v : Verdict) → IsVerdictOf s search v → (end : LogEnd) (sum : ℕ) → (h : HistoryEnds s search end sum)
    → (end_of v ≡ end) × (log_in v ≡ log_of search.budget h.rounds sum)

-- where the search begins with predicates, no two rounds refute one language: what a round refutes stays out of every later round
abbrev pub SearchRefutesOnce : Type 0
SearchRefutesOnce = (s : SystemData) (search : Search) (rounds : List SearchRound) (sum : ℕ)
    → IsByPredicates search.first → IsHistoryOf s search rounds sum → AreRefutedOnce rounds

-- the merged automata of each round grow, and its key bounds their number
abbrev pub SearchIsBoundedByKeys : Type 0
SearchIsBoundedByKeys = (s : SystemData) (search : Search) (rounds : List SearchRound) (sum : ℕ) → (h : IsHistoryOf s search rounds sum)
    → HoldOfRounds (search_method search.first) (IsBoundedByKey (searched_task search.analysis s).letters search.first) (first_key search.first h.bad) rounds

-- where some run of n steps is a counterexample, no round has an index above n, and none ends closed
abbrev pub SearchIsBoundedByRuns : Type 0
SearchIsBoundedByRuns = (s : SystemData) (search : Search) (run : Run) → IsCounterexample search.analysis s run
    → (rounds : List SearchRound) (sum : ℕ) → IsHistoryOf s search rounds sum → AllByRecursion (IsWithin (length run.steps)) rounds

-- and no verdict is safe, and no round of its log has an index above n
abbrev pub LogsAreBoundedByRuns : Type 0
LogsAreBoundedByRuns = (s : SystemData) (search : Search) (run : Run) → IsCounterexample search.analysis s run → (v : Verdict)
    → IsVerdictOf s search v → (end_of v ≢ Closed) × AllByRecursion (HasIndicesUpTo (length run.steps)) (log_in v).rounds
