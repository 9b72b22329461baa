-- Laws: a system and a search have one history and one verdict, and a verdict has one text.
use Rattle.std.specs.Prelude.{◌≡◌, ℕ, List}
use Rattle.protocol_model.specs.System.{SystemData}
use Rattle.search_history.specs.Histories.{SearchRound}
use Rattle.refinement.specs.declared.verdict.Verdict.{Verdict}
use Rattle.protocol_search.specs.Analyses.{IsVerdictText}
use Rattle.protocol_search.specs.Verdicts.{IsVerdictOf}
use Rattle.protocol_search.specs.SystemHistories.{IsHistoryOf}
use Rattle.protocol_search.specs.declared.search.Analysis.{Analysis}
use Rattle.protocol_search.specs.declared.search.Search.{Search}

-- two histories of one search for one system are equal
abbrev pub HistoryIsDetermined : Type 0
HistoryIsDetermined = (s : SystemData) (search : Search) (rounds rounds' : List SearchRound) (sum sum' : ℕ)
    → IsHistoryOf s search rounds sum → IsHistoryOf s search rounds' sum' → (rounds ≡ rounds') × (sum ≡ sum')

-- two verdicts of one search for one system are equal, with their logs
abbrev pub VerdictIsDetermined : Type 0
VerdictIsDetermined = (s : SystemData) (search : Search) (v w : Verdict) → IsVerdictOf s search v → IsVerdictOf s search w → v ≡ w

-- two texts of one verdict are equal
abbrev pub TextIsDetermined : Type 0
TextIsDetermined = (s : SystemData) (analysis : Analysis) (v : Verdict) (one other : List ℕ)
    → IsVerdictText analysis s v one → IsVerdictText analysis s v other → one ≡ other
