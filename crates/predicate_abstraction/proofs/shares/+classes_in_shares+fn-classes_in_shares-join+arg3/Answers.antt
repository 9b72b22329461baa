use Rattle.std.proofs.Common.{rules, sym, subst}
use Rattle.std.proofs.lemmas.Result.{IfOk-weaker}
use Rattle.predicate_abstraction.specs.private.Splitting.{AreClassesBy, AreCommon}
use Rattle.predicate_abstraction.proofs.ClassPairs.{classes_by_both}
use Rattle.predicate_abstraction.proofs.shares.+classes_in_shares+fn-classes_in_shares-join+arg3.Goals as goal

pub returns : goal.returns
returns g t c =
    let a = c.args.a.now in
    let share = c.split_at.result.0.now in
    let others = c.split_at.result.1.now in
    let x = c.deref.result.now in
    let y = c.deref-2.result.now in
    let first : AreClassesBy share a x = search rules in
    let rest : AreClassesBy others a y = search rules in
    IfOk-weaker c.common_classes.result (λ classes. AreCommon x y classes.items) (λ classes. AreClassesBy c.args.predicates.now a classes.items)
    (λ classes common. subst (λ ps. AreClassesBy ps a classes.items) (sym c.split_at.ensures.by_index.0)
    (classes_by_both share others a x y classes.items first rest common)) c.common_classes.ensures
