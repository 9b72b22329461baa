use Rattle.std.proofs.Common.{◌≡◌, ◌∙◌, [], inr, map, subst, ap}
use Rattle.std.proofs.lemmas.Result.{err_from_is_err_and}
use Rattle.protocol_model.specs.Faults.{first_fault_of, section_fault}
use Rattle.protocol_model.specs.System.{SystemData, IsValid}
use Rattle.protocol_properties.specs.Sections.{section_text, section_texts}
use Rattle.protocol_properties.proofs.Apart.{sections_clean}
use Rattle.protocol_properties.proofs.Written.{few_sections, few_letters}
use Rattle.protocol_properties.proofs.Named.{memory_alone}
use Rattle.protocol_properties.proofs.properties.resolve_properties.Goals as goal

pub new-requires-clause-few : goal.new-requires-clause-few
new-requires-clause-few c =
    rw (c.as_slice-2.ensures, c.in_ok-texts.ensures, c.as_slice.ensures)
    (few_sections c.system.inside.sections c.system.invariant.limits.sections_limit)

pub new-requires-clause-few_letters : goal.new-requires-clause-few_letters
new-requires-clause-few_letters c =
    rw (c.as_slice-2.ensures, c.in_ok-texts.ensures, c.as_slice.ensures)
    (few_letters c.system.inside.sections c.system.invariant.limits.letters_limit)

pub returns-in_err-sections-clause-refused : goal.returns-in_err-sections-clause-refused
returns-in_err-sections-clause-refused c =
    let s = c.args.system.now in
    let valid : IsValid s = subst IsValid c.system.view_is c.system.invariant in
    let texts_are : c.as_slice-2.result.now ≡ section_texts s =
    c.as_slice-2.ensures ∙ c.in_ok-texts.ensures ∙ ap (map section_text) c.as_slice.ensures
    ∙ ap (λ (d : SystemData). map section_text d.sections) c.system.view_is in
    let p = err_from_is_err_and c.from_residual-in_err-sections.result c.from_residual-in_err-sections.ensures.1 in
    rw (p.1, p.2)
    (inr (memory_alone (first_fault_of section_fault [] (section_texts s)) c.in_err-sections.field-0.0
    (sections_clean s.sections valid.each_section valid.section_names) (rw texts_are at c.in_err-sections.ensures)))

pub resolve_blocks-requires-clause-sections : goal.resolve_blocks-requires-clause-sections
resolve_blocks-requires-clause-sections c =
    c.in_ok-sections.ensures.1 ∙ c.as_slice-2.ensures ∙ c.in_ok-texts.ensures ∙ ap (map section_text) c.as_slice.ensures
    ∙ ap (λ (d : SystemData). map section_text d.sections) c.system.view_is
