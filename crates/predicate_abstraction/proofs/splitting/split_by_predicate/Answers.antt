use Rattle.std.proofs.Common.{subst}
use Rattle.std.proofs.lemmas.Result.{IfOk-weaker}
use Rattle.predicate_abstraction.specs.private.SharedWords.{AreShared}
use Rattle.predicate_abstraction.specs.private.Splitting.{IsSplit, IsSplitByRows}
use Rattle.predicate_abstraction.proofs.Parts.{split_by_shared}
use Rattle.predicate_abstraction.proofs.splitting.split_by_predicate.Goals as goal

pub returns : goal.returns
returns c =
    let set = c.in_ok-shared.shared in
    let a = c.args.a.now in
    let b = c.args.b.now in
    let classes = c.args.classes.now in
    IfOk-weaker c.split_by_pairs.result (λ finer. IsSplitByRows set 0 set.rows classes finer.items) (λ finer. IsSplit a b classes finer.items)
    (λ finer split. split_by_shared a b set classes finer.items (subst (λ m. AreShared m a set) c.as_dfa.ensures c.in_ok-shared.ensures) split)
    c.split_by_pairs.ensures
