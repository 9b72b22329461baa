use Rattle.std.proofs.Common.{◌≡◌, ◌∙◌, false, sym, arith, below_more, length}
use Rattle.protocol_model.specs.Moves.{is_in}
use Rattle.protocol_moves.specs.private.Gathering.{some_below, can_change_two}
use Rattle.protocol_moves.proofs.EnabledMoves.{some_at, none_at, no_second}
use Rattle.protocol_moves.proofs.enabled.has_two.Goals as goal

pub returns-then-not-is_in : goal.returns-then-not-is_in
returns-then-not-is_in c =
    let list = c.args.list.now in
    let absent : is_in list c.args.b ≡ false = first_of (cc, grind arith) in
    sym (none_at (λ i. some_below (can_change_two c.args.a c.args.b list i) (length list)) (length list)
    (λ i h. none_at (can_change_two c.args.a c.args.b list i) (length list) (λ j k. no_second c.args.a c.args.b list i j absent k)))

pub returns-then-has_partner : goal.returns-then-has_partner
returns-then-has_partner c =
    let l = c.positions in
    let list = c.args.list.now in
    sym (some_at (λ i. some_below (can_change_two c.args.a c.args.b list i) (length list)) (length list) l.i c.positions-test.true
    (sym c.has_partner.ensures ∙ c.if-has_partner.true))

pub positions-preserved : goal.positions-preserved
positions-preserved c = below_more _ _ c.positions.invariant (sym c.has_partner.ensures ∙ c.if-has_partner.false)

pub returns : goal.returns
returns c =
    let list = c.args.list.now in
    sym (none_at (λ i. some_below (can_change_two c.args.a c.args.b list i) (length list)) (length list)
    (λ k h. c.positions.invariant k (omega (arith, h, c.positions-test.false))))
