-- What holds of the verdict of a history of a problem, and of the verdict of a search backward.
use Rattle.std.proofs.Common.{◌≡◌, ◌≢◌, ◌≤◌, ◌∙◌, ℕ, List, None, Some, refl, sym, ap, subst}
use Rattle.std.specs.List.{last_or}
use Rattle.safety_problem.specs.Task.{Task}
use Rattle.safety_problem.specs.Reversal.{reversed}
use Rattle.abstraction.specs.Merging.{Key}
use Rattle.search_history.specs.Histories.{RefinableAbstraction, SearchRound, History, log_of}
use Rattle.search_history.specs.declared.log.Log.{Log}
use Rattle.search_history.specs.declared.log.LogEnd.{LogEnd}
use Rattle.search_history.specs.declared.log.LogEnd.TheVariants.{Spent}
use Rattle.refinement.specs.Verdicts.{IsVerdict, IsVerdictOfRound, log_in}
use Rattle.refinement.specs.declared.verdict.Verdict.{Verdict}
use Rattle.refinement.specs.declared.verdict.Verdict.TheVariants.{Safe, Unsafe, Unknown}
use Rattle.refinement.proofs.ForCallers.{history-larger}
use Rattle.backward_search.specs.BackwardVerdicts.{IsBackwardVerdict, IsToldBackward}
use Rattle.protocol_search.specs.SearchLaws.{with_logged_budget, logged_within}
use Rattle.protocol_search.specs.Verdicts.{end_of}

ends-so : (t : Task) (round : SearchRound) (v : Verdict) → IsVerdictOfRound t round v → round.end ≡ end_of v
ends-so t round (Safe proof log) h = h.0
ends-so t round (Unsafe words log) h = h.0
ends-so t round (Unknown log) h = h

-- the log and the end are those of a history
pub record IsFromRounds (t : Task) (method : RefinableAbstraction) (key : Key) (budget : ℕ) (log : Log) (end : LogEnd) : Type 0 where
  pub rounds : List SearchRound
  pub sum : ℕ
  pub history : History t method budget key 0 rounds sum
  pub log_is : log ≡ log_of budget rounds sum
  pub last_round : SearchRound
  pub is_last : last_or None rounds ≡ Some last_round
  pub ends : last_round.end ≡ end

pub from-rounds : (t : Task) (method : RefinableAbstraction) (key : Key) (budget : ℕ) (v : Verdict) → IsVerdict t method key budget v
    → IsFromRounds t method key budget (log_in v) (end_of v)
from-rounds t method key budget v h = record {
  rounds = h.rounds;
  sum = h.sum;
  history = h.history;
  log_is = h.log_is;
  last_round = h.last_round;
  is_last = h.is_last;
  ends = ends-so t h.last_round v h.verdict_of;
}

-- ---- a larger budget

logged : (budget : ℕ) (v : Verdict) → log_in (with_logged_budget budget v) ≡ logged_within budget (log_in v)
logged budget (Safe proof log) = refl
logged budget (Unsafe words log) = refl
logged budget (Unknown log) = refl

round-stays : (t : Task) (round : SearchRound) (budget : ℕ) (v : Verdict) → IsVerdictOfRound t round v → IsVerdictOfRound t round (with_logged_budget budget v)
round-stays t round budget (Safe proof log) h = h
round-stays t round budget (Unsafe words log) h = h
round-stays t round budget (Unknown log) h = h

pub verdict-stays : (t : Task) (method : RefinableAbstraction) (key : Key) (budget larger : ℕ) (v : Verdict)
    → budget ≤ larger → end_of v ≢ Spent
    → IsVerdict t method key budget v → IsVerdict t method key larger (with_logged_budget larger v)
verdict-stays t method key budget larger v more decided h =
    let unspent : h.last_round.end ≢ Spent = λ spent. decided (sym (ends-so t h.last_round v h.verdict_of) ∙ spent) in
    record {
      rounds = h.rounds;
      sum = h.sum;
      history = history-larger t budget larger more method None h.last_round unspent h.is_last h.history;
      last_round = h.last_round;
      is_last = h.is_last;
      verdict_of = round-stays t h.last_round larger v h.verdict_of;
      log_is = logged larger v ∙ ap (logged_within larger) h.log_is;
    }

-- ---- searches backward

told-log : (found v : Verdict) → IsToldBackward found v → log_in found ≡ log_in v
told-log (Safe proof log) v (c, complement, told) = ap log_in (sym told)
told-log (Unsafe words log) v told = ap log_in (sym told)
told-log (Unknown log) v told = ap log_in (sym told)

told-end : (found v : Verdict) → IsToldBackward found v → end_of found ≡ end_of v
told-end (Safe proof log) v (c, complement, told) = ap end_of (sym told)
told-end (Unsafe words log) v told = ap end_of (sym told)
told-end (Unknown log) v told = ap end_of (sym told)

pub from-rounds-back : (t : Task) (method : RefinableAbstraction) (key : Key) (budget : ℕ) (v : Verdict)
    → IsBackwardVerdict t method key budget v
    → IsFromRounds (reversed t) method key budget (log_in v) (end_of v)
from-rounds-back t method key budget v h =
    let from = from-rounds (reversed t) method key budget h.found h.is_found in
    let logs = subst (λ log. IsFromRounds (reversed t) method key budget log (end_of h.found)) (told-log h.found v h.told) from in
    subst (λ end. IsFromRounds (reversed t) method key budget (log_in v) end) (told-end h.found v h.told) logs

told-stays : (larger : ℕ) (found v : Verdict) → IsToldBackward found v → IsToldBackward (with_logged_budget larger found) (with_logged_budget larger v)
told-stays larger (Safe proof log) v (c, complement, told) = (c, complement, ap (with_logged_budget larger) told)
told-stays larger (Unsafe words log) v told = ap (with_logged_budget larger) told
told-stays larger (Unknown log) v told = ap (with_logged_budget larger) told

pub verdict-stays-back : (t : Task) (method : RefinableAbstraction) (key : Key) (budget larger : ℕ) (v : Verdict)
    → budget ≤ larger → end_of v ≢ Spent
    → IsBackwardVerdict t method key budget v → IsBackwardVerdict t method key larger (with_logged_budget larger v)
verdict-stays-back t method key budget larger v more decided h = record {
  found = with_logged_budget larger h.found;
  is_found = verdict-stays (reversed t) method key budget larger h.found more (λ spent. decided (sym (told-end h.found v h.told) ∙ spent)) h.is_found;
  told = told-stays larger h.found v h.told;
}
