use Rattle.std.proofs.Common.{[]}
use Rattle.std.proofs.lemmas.Result.{err_from_is_err_and}
use Rattle.protocol_model.specs.Numbering.{texts_of}
use Rattle.protocol_model.specs.Faults.{duplicate, first_fault_of}
use Rattle.protocol_model.proofs.Known.{or_left, outcome_after, ok_always}
use Rattle.protocol_model.proofs.sections.number_section.Goals as goal

pub returns-in_err-add_name-clause-outcome : goal.returns-in_err-add_name-clause-outcome
returns-in_err-add_name-clause-outcome c =
    let section = c.args.section.now in
    let p = err_from_is_err_and c.from_residual.result c.from_residual.ensures.1 in
    rw (p.1, p.2)
    (or_left (duplicate c.args.numbers.now section.name) (first_fault_of (λ before. duplicate (texts_of before)) [] section.letters)
    c.in_err-add_name.field-0.0 c.in_err-add_name.ensures.outcome)

pub returns-clause-outcome : goal.returns-clause-outcome
returns-clause-outcome c =
    let section = c.args.section.now in
    outcome_after (duplicate c.args.numbers.now section.name) (first_fault_of (λ before. duplicate (texts_of before)) [] section.letters)
    (texts_of section.letters) c.letter_names.result c.in_ok-add_name.ensures.outcome.0 (rw c.as_slice.ensures at c.letter_names.ensures)

pub returns-clause-added : goal.returns-clause-added
returns-clause-added c = ok_always c.letter_names.result c.in_ok-add_name.ensures.added
