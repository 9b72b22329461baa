use Rattle.std.proofs.Common.{◌≡◌, rules, sym, subst}
use Rattle.std.proofs.lemmas.Result.{IfOk-weaker}
use Rattle.safety_problem.specs.Task.{IsAutomatonOf}
use Rattle.abstraction.specs.Merging.{HaveEqualClasses, IsMerged}
use Rattle.abstraction.proofs.merging.merge_unless_same.Goals as goal

pub returns-then-eq : goal.returns-then-eq
returns-then-eq c =
    let a = c.args.a.now in
    let same : c.args.classes.now ≡ c.args.before.now = search rules in
    IfOk-weaker c.copy.result (λ copy. copy ≡ c.args.merged.now) (IsAutomatonOf a.letters (IsMerged (HaveEqualClasses c.args.classes.now) a))
    (λ copy same_copy. subst (IsAutomatonOf a.letters (IsMerged (HaveEqualClasses c.args.classes.now) a)) (sym same_copy)
    (subst (λ classes. IsAutomatonOf a.letters (IsMerged (HaveEqualClasses classes) a) c.args.merged.now) (sym same) c.requires.merged)) c.copy.ensures
