use Rattle.std.proofs.Common.{◌∙◌, sym, arith, below_more, length}
use Rattle.protocol_moves.specs.private.Gathering.{can_change_at}
use Rattle.protocol_moves.proofs.EnabledMoves.{some_at, none_at, start_is}
use Rattle.protocol_moves.proofs.enabled.has_start.Goals as goal

pub returns-then-starts-holds : goal.returns-then-starts-holds
returns-then-starts-holds c =
    let l = c.positions in
    let list = c.args.list.now in
    let e = start_is c.args.from c.args.guards.now c.guard_extents-extents.result list l.i c.guards_hold-holds.result
    c.guard_extents-extents.ensures c.positions-test.true c.guards_hold-holds.ensures in
    sym (some_at (can_change_at c.args.from c.args.guards.now list) (length list) l.i c.positions-test.true (sym e ∙ c.if-starts-holds.true))

pub positions-preserved : goal.positions-preserved
positions-preserved c =
    let l = c.positions in
    let e = start_is c.args.from c.args.guards.now c.guard_extents-extents.result c.args.list.now l.i c.guards_hold-holds.result
    c.guard_extents-extents.ensures c.positions-test.true c.guards_hold-holds.ensures in
    below_more _ _ l.invariant (sym e ∙ c.if-starts-holds.false)

pub returns : goal.returns
returns c =
    let list = c.args.list.now in
    sym (none_at (can_change_at c.args.from c.args.guards.now list) (length list)
    (λ j h. c.positions.invariant j (omega (arith, h, c.positions-test.false))))
