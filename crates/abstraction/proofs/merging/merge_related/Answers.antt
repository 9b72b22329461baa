use Rattle.std.proofs.Common.{subst}
use Rattle.safety_problem.specs.Task.{IsAutomatonOf}
use Rattle.abstraction.specs.Merging.{HaveEqualClasses, IsMerged}
use Rattle.abstraction.proofs.KnownClassLemmas.{merged_by}
use Rattle.abstraction.proofs.merging.merge_related.Goals as goal

pub returns : goal.returns
returns g c =
    let a = c.args.a.now in
    let automaton = c.in_ok-automaton.automaton in
    merged_by (g.A.Abstraction.related (g.A.Abstraction.key c.args.abstraction.now) a) a c.known_canonical.ensures.valid c.in_ok-classes.classes.items automaton
    c.in_ok-classes.ensures
    (subst (λ classes. IsAutomatonOf a.letters (IsMerged (HaveEqualClasses classes) a) automaton) c.deref.ensures.value c.in_ok-automaton.ensures)
