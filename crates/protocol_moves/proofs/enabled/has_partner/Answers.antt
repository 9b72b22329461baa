use Rattle.std.proofs.Common.{◌∙◌, sym, arith, below_more, length, refl, not, ◌==◌}
use Rattle.protocol_moves.specs.private.Gathering.{can_change_two}
use Rattle.protocol_moves.proofs.EnabledMoves.{some_at, none_at, partner_is, no_partner}
use Rattle.protocol_moves.proofs.enabled.has_partner.Goals as goal

pub returns-then-first-a : goal.returns-then-first-a
returns-then-first-a c =
    let list = c.args.list.now in
    sym (none_at (can_change_two c.args.a c.args.b list c.args.i) (length list)
    (λ j h. no_partner c.args.a c.args.b list c.args.i j c.if-first-a.true))

pub returns-then-apart-partner : goal.returns-then-apart-partner
returns-then-apart-partner c =
    let l = c.partners in
    let list = c.args.list.now in
    let e = partner_is c.args.a c.args.b list c.args.i l.j (not (c.args.i == l.j)) c.if-first-a.false refl in
    sym (some_at (can_change_two c.args.a c.args.b list c.args.i) (length list) l.j c.partners-test.true (sym e ∙ c.if-apart-partner.true))

pub partners-preserved : goal.partners-preserved
partners-preserved c =
    let l = c.partners in
    let e = partner_is c.args.a c.args.b c.args.list.now c.args.i l.j (not (c.args.i == l.j)) c.if-first-a.false refl in
    below_more _ _ l.invariant (sym e ∙ c.if-apart-partner.false)

pub returns : goal.returns
returns c =
    let list = c.args.list.now in
    sym (none_at (can_change_two c.args.a c.args.b list c.args.i) (length list)
    (λ k h. c.partners.invariant k (omega (arith, h, c.partners-test.false))))
