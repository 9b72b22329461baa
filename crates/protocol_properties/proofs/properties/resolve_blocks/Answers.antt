use Rattle.std.proofs.Common.{◌≡◌, ◌∙◌, map, sym, subst, arith}
use Rattle.std.proofs.lemmas.List.{take_all}
use Rattle.std.proofs.lemmas.Result.{err_from_is_err_and}
use Rattle.protocol_properties.specs.Properties.{property_named, property_names}
use Rattle.protocol_properties.proofs.Named.{properties_with, properties_without}
use Rattle.protocol_properties.proofs.properties.resolve_blocks.Goals as goal

pub returns-in_err-test_rows-clause-refused : goal.returns-in_err-test_rows-clause-refused
returns-in_err-test_rows-clause-refused c =
    let p = err_from_is_err_and c.from_residual.result c.from_residual.ensures.1 in
    rw (p.1, p.2) (rw c.requires.sections at c.in_err-test_rows.ensures)

pub each_block-preserved : goal.each_block-preserved
each_block-preserved c =
    let walk = c.each_block in
    rw (c.in_ok-push.ensures.items, walk.invariant, c.in_ok-property.ensures.property)
    (sym (properties_with c.args.system.now c.args.blocks.now walk.i c.index-blocks-i.result c.each_block-test.true c.index-blocks-i.is
    (sym c.is_named.ensures ∙ c.if-is_named.false)))

pub each_block-preserved-then-is_named : goal.each_block-preserved-then-is_named
each_block-preserved-then-is_named c =
    let walk = c.each_block in
    walk.invariant
    ∙ sym (properties_without c.args.system.now c.args.blocks.now walk.i c.index-blocks-i.result c.each_block-test.true c.index-blocks-i.is
    (sym c.is_named.ensures ∙ c.if-is_named.true))

pub returns-clause-properties : goal.returns-clause-properties
returns-clause-properties c =
    let walk = c.each_block in
    let s = c.args.system.now in
    let blocks = c.args.blocks.now in (
      rw c.requires.sections at c.in_ok-test_rows.ensures.0,
      rw c.from_vec.ensures
          (subst (λ bs. walk.properties.items ≡ map (property_named s blocks) (property_names bs))
          (take_all walk.i blocks (omega (arith, c.each_block-test.false))) walk.invariant),
    )
