use Rattle.std.proofs.Common.{◌∙◌}
use Rattle.std.proofs.lemmas.Result.{err_from_is_err_and}
use Rattle.protocol_model.proofs.Walk.{stops, goes_on, walked_all}
use Rattle.protocol_model.proofs.traversal.resolve_each.Goals as goal

pub returns-in_err-value : goal.returns-in_err-value
returns-in_err-value g c =
    let walk = c.items in
    let p = err_from_is_err_and c.from_residual.result c.from_residual.ensures.1 in
    rw (p.1, p.2)
    (stops (g.R.Resolver.fault c.args.resolver.now) (g.R.Resolver.value c.args.resolver.now) c.args.items.now walk.i walk.values.items
    c.index-items-i.result c.in_err-value.field-0.0 c.items-test.true walk.invariant c.index-items-i.is c.in_err-value.ensures)

pub items-preserved : goal.items-preserved
items-preserved g c =
    let walk = c.items in
    rw c.in_ok-push.ensures.items
    (goes_on (g.R.Resolver.fault c.args.resolver.now) (g.R.Resolver.value c.args.resolver.now) c.args.items.now walk.i walk.values.items
    c.index-items-i.result c.in_ok-value.value c.items-test.true walk.invariant c.index-items-i.is c.in_ok-value.ensures.0 c.in_ok-value.ensures.1)

pub returns : goal.returns
returns g c =
    let all = walked_all (g.R.Resolver.fault c.args.resolver.now) (g.R.Resolver.value c.args.resolver.now)
    c.args.items.now c.items.i c.items.values.items c.items-test.false c.items.invariant in
    (all.0, c.from_vec.ensures ∙ all.1)
