use Rattle.std.proofs.Common.{◌+◌, sym, subst}
use Rattle.predicate_abstraction.specs.private.Codes.{AreCodes}
use Rattle.predicate_abstraction.proofs.CodeLemmas.{codes_more}
use Rattle.predicate_abstraction.proofs.codes.codes.Goals as goal

pub columns-preserved : goal.columns-preserved
columns-preserved c =
    let set = c.args.set.now in
    let classes = c.args.classes.now in
    subst (λ codes. AreCodes set c.args.row classes codes (c.columns.column + 1)) (sym c.in_ok-push.ensures.items)
    (codes_more set c.args.row classes c.columns.codes.items c.columns.column c.code.result c.code.ensures c.columns.invariant)
