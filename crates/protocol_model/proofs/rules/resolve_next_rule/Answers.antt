use Rattle.std.proofs.Common.{[]}
use Rattle.std.proofs.lemmas.Result.{err_from_is_err_and}
use Rattle.protocol_model.specs.Numbering.{rule_of}
use Rattle.protocol_model.specs.Faults.{duplicate, first_fault_of, step_fault}
use Rattle.protocol_model.proofs.Known.{or_left, outcome_after, ok_always}
use Rattle.protocol_model.proofs.rules.resolve_next_rule.Goals as goal

pub returns-in_err-add_name-clause-outcome : goal.returns-in_err-add_name-clause-outcome
returns-in_err-add_name-clause-outcome c =
    let rule = c.args.rule.now in
    let p = err_from_is_err_and c.from_residual.result c.from_residual.ensures.1 in
    rw (p.1, p.2)
    (or_left (duplicate c.args.names.now rule.name) (first_fault_of (step_fault c.args.sections.now) [] rule.moves)
    c.in_err-add_name.field-0.0 c.in_err-add_name.ensures.outcome)

pub returns-clause-outcome : goal.returns-clause-outcome
returns-clause-outcome c =
    let rule = c.args.rule.now in
    let sections = c.args.sections.now in
    outcome_after (duplicate c.args.names.now rule.name) (first_fault_of (step_fault sections) [] rule.moves) (rule_of sections rule)
    c.resolve_rule.result c.in_ok-add_name.ensures.outcome.0 c.resolve_rule.ensures

pub returns-clause-added : goal.returns-clause-added
returns-clause-added c = ok_always c.resolve_rule.result c.in_ok-add_name.ensures.added
