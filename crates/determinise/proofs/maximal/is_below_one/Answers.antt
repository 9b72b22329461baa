use Rattle.std.proofs.Common.{get_or}
use Rattle.std.proofs.lemmas.List.Elements.{Contains-append_left, Contains-append_right}
use Rattle.determinise.proofs.maximal.is_below_one.Goals as goal

pub returns-then-is_below_some : goal.returns-then-is_below_some
returns-then-is_below_some c t =
    let below = c.is_below_some.ensures c.if-is_below_some.true in
    (below.0, Contains-append_left c.args.before.now c.args.after.now below.0 below.1, below.2)

pub returns-else-is_below_some : goal.returns-else-is_below_some
returns-else-is_below_some c t =
    let below = c.is_below_some-else-is_below_some.ensures t in
    (below.0, Contains-append_right c.args.before.now c.args.after.now below.0 below.1, below.2)

pub returns-then-is_below : goal.returns-then-is_below
returns-then-is_below c t = (get_or c.above-above.result.now c.above.other-index 0, c.has_one.ensures c.if-has_one.true, c.is_below.ensures c.if-is_below.true)
