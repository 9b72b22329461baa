use Rattle.std.proofs.Common.{Contains, List, ℕ, sym, subst}
use Rattle.determinise.specs.private.Subsets.{IsSubsetFrom}
use Rattle.determinise.proofs.Closures.{subset_itself}
use Rattle.determinise.proofs.subset.subset_of.Goals as goal

pub returns : goal.returns
returns c =
    subst (IsSubsetFrom c.args.automaton.now c.args.from.items) (sym c.from_vec.ensures)
    (subset_itself c.args.automaton.now c.args.from.items c.requires.states
    (λ p there. c.requires.plain p (c.has_flag.ensures c.if-has_flag.false p (subst (λ (xs : List ℕ). Contains xs p) (sym c.deref.ensures.value) there))))
