use Rattle.std.proofs.Common.{List, Bool, sym, subst}
use Rattle.determinise.specs.private.Subsets.{ArePlainWhereFalse}
use Rattle.reduction.proofs.ForCallers.{included_none}
use Rattle.determinise.proofs.subsets_of_live.Goals as goal

pub new-subsets-requires-clause-plain : goal.new-subsets-requires-clause-plain
new-subsets-requires-clause-plain c = subst (λ (xs : List Bool). ArePlainWhereFalse c.args.automaton.now xs) (sym c.deref.ensures.value) c.in_ok-silent.ensures.plain

pub new-subsets-requires-clause-included : goal.new-subsets-requires-clause-included
new-subsets-requires-clause-included c = included_none c.args.automaton.now c.in_ok-none.none c.in_ok-none.ensures
