use Rattle.std.proofs.Common.{map, take, refl, arith}
use Rattle.std.proofs.lemmas.Result.{err_from_is_err_and}
use Rattle.protocol_model.specs.Numbering.{row_of}
use Rattle.protocol_model.specs.Faults.{row_fault}
use Rattle.protocol_model.proofs.ForCallers.{stops, goes_on, walked_all}
use Rattle.protocol_properties.proofs.properties.test_rows.Goals as goal

pub returns-in_err-resolve_row : goal.returns-in_err-resolve_row
returns-in_err-resolve_row c =
    let walk = c.each_block in
    let sections = c.args.sections.now in
    let blocks = c.args.blocks.now in
    let p = err_from_is_err_and c.from_residual.result c.from_residual.ensures.1 in
    rw (p.1, p.2)
    (stops (λ _ block. row_fault sections block.1) (λ block. row_of sections block.1) blocks walk.block-index
    (map (λ block. row_of sections block.1) (take walk.block-index blocks)) c.block-item.result
    c.in_err-resolve_row.field-0.0 c.each_block-test.true walk.invariant c.block-item.is c.in_err-resolve_row.ensures)

pub each_block-preserved : goal.each_block-preserved
each_block-preserved c =
    let walk = c.each_block in
    let sections = c.args.sections.now in
    let blocks = c.args.blocks.now in
    let next = goes_on (λ _ block. row_fault sections block.1) (λ block. row_of sections block.1) blocks walk.block-index
    (map (λ block. row_of sections block.1) (take walk.block-index blocks)) c.block-item.result c.in_ok-resolve_row.field-0
    c.each_block-test.true walk.invariant c.block-item.is c.in_ok-resolve_row.ensures.0 c.in_ok-resolve_row.ensures.1 in
    record { clean = next.clean; values = refl }

pub returns : goal.returns
returns c =
    let walk = c.each_block in
    let sections = c.args.sections.now in
    let blocks = c.args.blocks.now in
    let all = walked_all (λ _ block. row_fault sections block.1) (λ block. row_of sections block.1) blocks walk.block-index
    (map (λ block. row_of sections block.1) (take walk.block-index blocks)) (omega (arith, c.each_block-test.false)) walk.invariant in
    (all.0, refl)
