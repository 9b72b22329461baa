use Rattle.std.proofs.Common.{◌∙◌, sym, subst, arith, map, false}
use Rattle.std.proofs.lemmas.List.{get_or-map}
use Rattle.protocol_moves.specs.private.Extents.{is_hit}
use Rattle.std.proofs.lemmas.List.{length-map}
use Rattle.protocol_moves.proofs.ExtentLemmas.{IsExtentTo, no_marks_yet, whole_extent}
use Rattle.protocol_moves.proofs.TestedMove.{mark_turn}
use Rattle.protocol_moves.proofs.moves.guard_extent.Goals as goal

pub positions-init : goal.positions-init
positions-init c =
    let marks = map (is_hit c.args.guard.now) c.args.list.now in
    subst (λ n. IsExtentTo marks 0 n 0) (length-map c.args.list.now (is_hit c.args.guard.now)) (no_marks_yet marks)

pub positions-preserved : goal.positions-preserved
positions-preserved c =
    let hit = is_hit c.args.guard.now in
    let list = c.args.list.now in
    let l = c.positions in
    let within = c.positions-test.true in
    mark_turn (map hit list) l.i l.extent.first l.extent.last c.next-extent.result.first c.next-extent.result.last c.is_hit.result
    (omega (arith, within, length-map list hit)) (get_or-map hit list l.i 0 false within ∙ sym c.is_hit.ensures)
    c.next-extent.ensures.first c.next-extent.ensures.last l.invariant

pub returns : goal.returns
returns c =
    let hit = is_hit c.args.guard.now in
    let list = c.args.list.now in
    let l = c.positions in
    whole_extent (map hit list) l.i l.extent.first l.extent.last
    (omega (arith, c.positions-test.false, l.auto.i-end, length-map list hit)) l.invariant
