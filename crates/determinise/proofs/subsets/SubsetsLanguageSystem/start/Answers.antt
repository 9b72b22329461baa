use Rattle.std.proofs.Common.{ℕ, List, subst}
use Rattle.determinise.specs.private.Subsets.{IsSubsetFrom}
use Rattle.word_automata.proofs.ForCallers.{closure_accepts}
use Rattle.determinise.proofs.subsets.SubsetsLanguageSystem.start.Goals as goal

pub returns-clause-start : goal.returns-clause-start
returns-clause-start c =
    let n = c.args.self.now.automaton.now in
    let subset = c.in_ok-subset_from.field-0 in
    let from = subst (λ (starts : List ℕ). IsSubsetFrom n starts subset) c.starts-starts.ensures.starts c.in_ok-subset_from.ensures in
    closure_accepts n n.starts subset from.closure
