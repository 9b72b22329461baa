-- Laws of verdicts: what they show, and larger budgets.
use Rattle.std.specs.Prelude.{◌≡◌, ◌≢◌, ◌≤◌, ℕ, List}
use Rattle.protocol_model.specs.System.{SystemData}
use Rattle.search_history.specs.declared.log.Log.{Log}
use Rattle.search_history.specs.declared.log.LogEnd.TheVariants.{Spent}
use Rattle.refinement.specs.Verdicts.{IsSound}
use Rattle.refinement.specs.declared.verdict.Verdict.{Verdict}
use Rattle.refinement.specs.declared.verdict.Verdict.TheVariants.{Safe, Unsafe, Unknown}
use Rattle.protocol_search.specs.Analyses.{task_for, proof_limit, VerdictShows, IsVerdictText, TextShows}
use Rattle.protocol_search.specs.Verdicts.{IsVerdictOf, end_of}
use Rattle.protocol_search.specs.declared.search.Search.{Search}

-- each verdict is sound for its problem: an automaton that it carries is an invariant with fewer states than the limit of its search
abbrev pub VerdictsAreSound : Type 0
VerdictsAreSound =
    (s : SystemData) (search : Search) (v : Verdict) → IsVerdictOf s search v
    → IsSound (task_for search.analysis s) (proof_limit search.analysis search.budget) v

-- each verdict shows of the system what it says
abbrev pub VerdictsShow : Type 0
VerdictsShow = (s : SystemData) (search : Search) (v : Verdict) → IsVerdictOf s search v → VerdictShows search.analysis s v

-- and so does each text of it
abbrev pub TextsShow : Type 0
TextsShow = (s : SystemData) (search : Search) (v : Verdict) (text : List ℕ)
    → IsVerdictOf s search v → IsVerdictText search.analysis s v text → TextShows search.analysis s v text

-- the search with another budget
abbrev pub with_budget : ℕ → Search → Search
with_budget budget search = record search { budget = budget }

-- the same log, with another budget in it
abbrev pub logged_within : ℕ → Log → Log
logged_within budget log = record { budget = budget; counted = log.counted; rounds = log.rounds }

-- the same verdict, with another budget in its log
abbrev pub with_logged_budget : ℕ → Verdict → Verdict
with_logged_budget budget (Safe proof log) = Safe proof (logged_within budget log)
with_logged_budget budget (Unsafe words log) = Unsafe words (logged_within budget log)
with_logged_budget budget (Unknown log) = Unknown (logged_within budget log)

-- a verdict that decides the system is the verdict for every larger budget, which alone differs in its log
abbrev pub LargerBudgetKeepsVerdict : Type 0
LargerBudgetKeepsVerdict = (s : SystemData) (search : Search) (larger : ℕ) (v w : Verdict) → search.budget ≤ larger
    → IsVerdictOf s search v → end_of v ≢ Spent → IsVerdictOf s (with_budget larger search) w → w ≡ with_logged_budget larger v

-- and the two have one text
abbrev pub LargerBudgetKeepsText : Type 0
LargerBudgetKeepsText = (s : SystemData) (search : Search) (larger : ℕ) (v w : Verdict) (one other : List ℕ) → search.budget ≤ larger
    → IsVerdictOf s search v → end_of v ≢ Spent → IsVerdictOf s (with_budget larger search) w
    → IsVerdictText search.analysis s v one → IsVerdictText search.analysis s w other → other ≡ one
