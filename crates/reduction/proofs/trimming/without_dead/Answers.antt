use Rattle.std.proofs.Common.{ℕ, List, subst}
use Rattle.reduction.specs.private.Renumbering.{IsPart}
use Rattle.reduction.proofs.Parts.{part_accepts}
use Rattle.reduction.proofs.trimming.without_dead.Goals as goal

pub returns-clause-language : goal.returns-clause-language
returns-clause-language c w =
    let n = c.args.automaton.now in
    let part = c.in_ok-part_of.field-0 in
    part_accepts n part c.args.dead.now c.requires.dead c.requires.count c.in_ok-states.states.items c.in_ok-states.ensures
    (subst (λ (xs : List ℕ). IsPart n xs part) c.deref.ensures.value c.in_ok-part_of.ensures) w
