use Rattle.std.proofs.Common.{◌≡◌, [], None, map, sym, subst, refl}
use Rattle.protocol_model.specs.Faults.{row_fault, first_fault_of}
use Rattle.protocol_model.specs.Numbering.{row_of}
use Rattle.protocol_properties.specs.Sections.{section_texts}
use Rattle.protocol_properties.specs.Properties.{rows_named}
use Rattle.protocol_properties.proofs.Named.{rows_fit, few_rows}
use Rattle.protocol_properties.proofs.properties.resolve_property.Goals as goal

pub resolve_rows_named-requires : goal.resolve_rows_named-requires
resolve_rows_named-requires c =
    subst (λ texts. first_fault_of (λ _ block. row_fault texts block.1) [] c.args.blocks.now ≡ None) (sym c.requires.sections) c.requires.clean

pub copy_with_bad_rows-requires-clause-valid : goal.copy_with_bad_rows-requires-clause-valid
copy_with_bad_rows-requires-clause-valid c =
    let rows : c.in_ok-bad.bad ≡ map (row_of (section_texts c.args.system.now)) (rows_named c.args.name.now.text c.args.blocks.now) =
    subst (λ texts. c.in_ok-bad.bad ≡ map (row_of texts) (rows_named c.args.name.now.text c.args.blocks.now)) c.requires.sections
    c.in_ok-bad.ensures.rows in
    rw rows (rows_fit c.args.system.now c.args.name.now.text c.args.blocks.now c.requires.clean c.requires.allowed)

pub copy_with_bad_rows-requires-clause-limit : goal.copy_with_bad_rows-requires-clause-limit
copy_with_bad_rows-requires-clause-limit c =
    let rows : c.in_ok-bad.bad ≡ map (row_of (section_texts c.args.system.now)) (rows_named c.args.name.now.text c.args.blocks.now) =
    subst (λ texts. c.in_ok-bad.bad ≡ map (row_of texts) (rows_named c.args.name.now.text c.args.blocks.now)) c.requires.sections
    c.in_ok-bad.ensures.rows in
    rw rows (few_rows (section_texts c.args.system.now) c.args.name.now.text c.args.blocks.now c.requires.allowed.limit)

pub returns-clause-property : goal.returns-clause-property
returns-clause-property c =
    let rows : c.in_ok-bad.bad ≡ map (row_of (section_texts c.args.system.now)) (rows_named c.args.name.now.text c.args.blocks.now) =
    subst (λ texts. c.in_ok-bad.bad ≡ map (row_of texts) (rows_named c.args.name.now.text c.args.blocks.now)) c.requires.sections
    c.in_ok-bad.ensures.rows in
    rw (c.in_ok-name.ensures, c.in_ok-system.ensures, rows) refl
