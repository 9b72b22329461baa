use Rattle.std.proofs.Common.{◌∙◌, sym, ap, subst, arith, not, ◌==◌, get_or}
use Rattle.protocol_moves.specs.private.Extents.{changes}
use Rattle.protocol_moves.proofs.ExtentLemmas.{IsExtentTo, no_marks_yet, whole_extent}
use Rattle.protocol_moves.proofs.OneMove.{length_changes}
use Rattle.protocol_moves.proofs.TestedMove.{mark_turn, get_change}
use Rattle.protocol_moves.proofs.moves.change_extent.Goals as goal

pub positions-init : goal.positions-init
positions-init c =
    let marks = changes c.args.table.now c.args.old.now c.args.new.now in
    subst (λ n. IsExtentTo marks 0 n 0) (length_changes c.args.table.now c.args.old.now c.args.new.now c.requires) (no_marks_yet marks)

pub positions-preserved : goal.positions-preserved
positions-preserved c =
    let table = c.args.table.now in
    let old = c.args.old.now in
    let new = c.args.new.now in
    let l = c.positions in
    let within = c.positions-test.true in
    mark_turn (changes table old new) l.i l.extent.first l.extent.last c.next-extent.result.first c.next-extent.result.last
    (not (c.table_value.result == get_or new l.i 0))
    (omega (arith, within, length_changes table old new c.requires))
    (get_change table old new l.i within c.requires ∙ ap (λ x. not (x == get_or new l.i 0)) (sym c.table_value.ensures))
    c.next-extent.ensures.first c.next-extent.ensures.last l.invariant

pub returns : goal.returns
returns c =
    let l = c.positions in
    whole_extent (changes c.args.table.now c.args.old.now c.args.new.now) l.i l.extent.first l.extent.last
    (omega (arith, c.positions-test.false, l.auto.i-end, length_changes c.args.table.now c.args.old.now c.args.new.now c.requires)) l.invariant
