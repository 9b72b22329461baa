use Rattle.std.proofs.Common.{sym, ◌∙◌}
use Rattle.std.proofs.lemmas.Result.{err_from_is_err_and}
use Rattle.protocol_model.specs.Faults.{row_fault}
use Rattle.protocol_properties.proofs.Named.{clean_at, rows_with, rows_without, memory_alone}
use Rattle.protocol_properties.proofs.properties.resolve_rows_named.Goals as goal

pub returns-in_err-resolve_row-clause-refused : goal.returns-in_err-resolve_row-clause-refused
returns-in_err-resolve_row-clause-refused c =
    let walk = c.each_block in
    let item = c.block-item.result in
    let p = err_from_is_err_and c.from_residual.result c.from_residual.ensures.1 in
    rw (p.1, p.2)
    (memory_alone (row_fault c.args.sections.now item.1) c.in_err-resolve_row.field-0.0
    (clean_at c.args.sections.now c.args.blocks.now walk.block-index item c.requires c.each_block-test.true c.block-item.is)
    c.in_err-resolve_row.ensures)

pub each_block-preserved : goal.each_block-preserved
each_block-preserved c =
    let walk = c.each_block in
    rw (c.in_ok-push.ensures.items, walk.invariant, c.in_ok-resolve_row.ensures.1)
    (sym (rows_with c.args.sections.now c.args.name.now.text c.args.blocks.now walk.block-index c.block-item.result c.each_block-test.true
    c.block-item.is (sym c.has_name.ensures ∙ c.if-not-has_name.false)))

pub each_block-preserved-then-not-has_name : goal.each_block-preserved-then-not-has_name
each_block-preserved-then-not-has_name c =
    let walk = c.each_block in
    walk.invariant
    ∙ sym (rows_without c.args.sections.now c.args.name.now.text c.args.blocks.now walk.block-index c.block-item.result c.each_block-test.true
    c.block-item.is (sym c.has_name.ensures ∙ c.if-not-has_name.true))
