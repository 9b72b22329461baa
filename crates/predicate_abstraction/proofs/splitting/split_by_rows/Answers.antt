use Rattle.std.proofs.Common.{◌≡◌, ◌+◌, sym, subst}
use Rattle.std.proofs.lemmas.Result.{IfOk-weaker}
use Rattle.abstraction.specs.FirstStates.{AreFirsts}
use Rattle.predicate_abstraction.specs.private.Splitting.{IsSplitByRows}
use Rattle.predicate_abstraction.proofs.CodeLemmas.{split_by_codes}
use Rattle.predicate_abstraction.proofs.splitting.split_by_rows.Goals as goal

pub returns : goal.returns
returns c =
    let set = c.args.set.now in
    let classes = c.args.classes.now in
    let codes = c.in_ok-codes.codes.items in
    IfOk-weaker c.first_states.result (λ firsts. AreFirsts c.deref.result.now firsts.items) (λ finer. IsSplitByRows set c.args.row (c.args.row + 3) classes finer.items)
    (λ firsts are. split_by_codes set c.args.row classes codes firsts.items c.in_ok-codes.ensures (subst (λ cs. AreFirsts cs firsts.items) c.deref.ensures.value are))
    c.first_states.ensures

pub returns-then-are_whole : goal.returns-then-are_whole
returns-then-are_whole c =
    let set = c.args.set.now in
    let classes = c.args.classes.now in
    let whole : IsSplitByRows set c.args.row (c.args.row + 3) classes classes = c.are_whole.ensures c.if-are_whole.true in
    IfOk-weaker c.from_slice.result (λ copy. copy.items ≡ classes) (λ finer. IsSplitByRows set c.args.row (c.args.row + 3) classes finer.items)
    (λ copy same. subst (IsSplitByRows set c.args.row (c.args.row + 3) classes) (sym same) whole) c.from_slice.ensures.items
