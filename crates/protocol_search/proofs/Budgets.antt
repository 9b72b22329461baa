-- A verdict that decides a system is the verdict for every larger budget.
use Rattle.std.proofs.Common.{subst}
use Rattle.protocol_search.specs.Analyses.{task_for, IsVerdictText}
use Rattle.protocol_search.specs.Methods.{search_method, first_key}
use Rattle.protocol_search.specs.SearchLaws.{with_budget, with_logged_budget, LargerBudgetKeepsVerdict, LargerBudgetKeepsText}
use Rattle.protocol_search.proofs.ByAnalysis.{by-stays, text-once, text-stays}
use Rattle.protocol_search.proofs.Rounds.{verdict-once}

pub larger-keeps : LargerBudgetKeepsVerdict
larger-keeps s search larger v w more h decided k =
    let key = first_key search.first h.bad in
    let stays = by-stays search.analysis (task_for search.analysis s) (search_method search.first) key search.budget larger v more decided h.is_verdict in
    verdict-once s (with_budget larger search) w (with_logged_budget larger v) k (record { bad = h.bad; is_bad = h.is_bad; is_verdict = stays })

pub larger-keeps-text : LargerBudgetKeepsText
larger-keeps-text s search larger v w one other more h decided k told told' =
    let same = larger-keeps s search larger v w more h decided k in
    let moved = subst (λ x. IsVerdictText search.analysis s x other) same told' in
    text-once s search.analysis v other one (text-stays s search.analysis larger v other decided moved) told
