use Rattle.std.proofs.Common.{◌∙◌, sym, arith, below_more, refl}
use Rattle.protocol_moves.proofs.OneMove.{at_found, at_none, at_length}
use Rattle.protocol_moves.proofs.TestedMove.{at_by, three_hold}
use Rattle.protocol_moves.proofs.EndMove.{never}
use Rattle.protocol_moves.proofs.moves.is_at_move.Goals as goal

pub returns-then-old-new : goal.returns-then-old-new
returns-then-old-new c =
    never (λ m. c.if-old-new.true (at_length c.args.change.0 c.args.change.1 c.args.guards.now c.args.table.now c.args.old.now c.args.new.now m))

pub returns-then-moves-stays : goal.returns-then-moves-stays
returns-then-moves-stays c =
    let change = c.args.change in
    let l = c.positions in
    let e = at_by change.0 change.1 c.args.guards.now c.args.table.now c.args.old.now c.args.new.now l.i
    c.change_extent-changed.result.first c.change_extent-changed.result.last c.guard_extents-extents.result
    c.if-old-new.false c.positions-test.true c.change_extent-changed.ensures c.guard_extents-extents.ensures in
    let tested = c.if-moves-stays.true in (
      λ h. at_found change.0 change.1 c.args.guards.now c.args.table.now c.args.old.now c.args.new.now l.i c.if-old-new.false c.positions-test.true
          (sym e ∙ three_hold _ _ _ _ _ c.is_within-stays.ensures c.guards_hold-holds.ensures tested),
      λ m. refl,
    )

pub positions-preserved : goal.positions-preserved
positions-preserved c =
    let change = c.args.change in
    let l = c.positions in
    let e = at_by change.0 change.1 c.args.guards.now c.args.table.now c.args.old.now c.args.new.now l.i
    c.change_extent-changed.result.first c.change_extent-changed.result.last c.guard_extents-extents.result
    c.if-old-new.false c.positions-test.true c.change_extent-changed.ensures c.guard_extents-extents.ensures in
    let tested = c.if-moves-stays.false in
    below_more _ _ l.invariant (sym e ∙ three_hold _ _ _ _ _ c.is_within-stays.ensures c.guards_hold-holds.ensures tested)

pub returns : goal.returns
returns c =
    let change = c.args.change in
    let l = c.positions in
    never (at_none change.0 change.1 c.args.guards.now c.args.table.now c.args.old.now c.args.new.now
    (λ j h. l.invariant j (omega (arith, h, c.positions-test.false))))
