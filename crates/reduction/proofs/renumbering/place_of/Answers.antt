use Rattle.std.proofs.Common.{arith}
use Rattle.reduction.proofs.renumbering.place_of.Goals as goal

pub returns-then-state-places-clause-none : goal.returns-then-state-places-clause-none
returns-then-state-places-clause-none c none there =
    let at = c.requires c.args.state there in
    let l = at.0 in
    let t = c.if-state-places.true in
    omega arith
