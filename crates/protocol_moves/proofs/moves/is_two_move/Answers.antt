use Rattle.std.proofs.Common.{◌∙◌, sym, arith}
use Rattle.protocol_moves.proofs.TwoMove.{two_first, two_turn, two_last, two_found, two_given, two_length}
use Rattle.protocol_moves.proofs.EndMove.{never}
use Rattle.protocol_moves.proofs.moves.is_two_move.Goals as goal

pub returns-then-old-new : goal.returns-then-old-new
returns-then-old-new c =
    let was = c.args.was in
    let becomes = c.args.becomes in
    never (λ m. c.if-old-new.true
    (two_length was.0 was.1 becomes.0 becomes.1 c.args.old.now c.args.new.now
    (two_given was.0 was.1 becomes.0 becomes.1 c.args.old.now c.args.new.now m)))

pub positions-init : goal.positions-init
positions-init c =
    sym (two_first c.args.was.0 c.args.was.1 c.args.becomes.0 c.args.becomes.1 c.args.old.now c.args.new.now)

pub positions-preserved : goal.positions-preserved
positions-preserved c =
    let l = c.positions in
    l.invariant
    ∙ two_turn c.args.was.0 c.args.was.1 c.args.becomes.0 c.args.becomes.1 l.none l.one l.other l.both c.args.old.now c.args.new.now l.i
    c.positions-test.true c.if-old-new.false

pub returns : goal.returns
returns c =
    let l = c.positions in
    let was = c.args.was in
    let becomes = c.args.becomes in
    let e = l.invariant
    ∙ two_last was.0 was.1 becomes.0 becomes.1 l.none l.one l.other l.both c.args.old.now c.args.new.now l.i
    (omega (arith, c.positions-test.false, l.auto.i-end)) c.if-old-new.false in (
      λ h. two_found was.0 was.1 becomes.0 becomes.1 c.args.old.now c.args.new.now (e ∙ h),
      λ m. sym e ∙ two_given was.0 was.1 becomes.0 becomes.1 c.args.old.now c.args.new.now m,
    )
