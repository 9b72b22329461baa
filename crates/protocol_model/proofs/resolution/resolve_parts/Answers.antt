use Rattle.std.proofs.Common.{[]}
use Rattle.std.specs.Option.{option_or}
use Rattle.std.proofs.lemmas.Result.{err_from_is_err_and}
use Rattle.protocol_model.specs.Faults.{first_fault_of, section_fault, row_fault, rule_fault}
use Rattle.protocol_model.proofs.Known.{or_left, or_right, or_none}
use Rattle.protocol_model.proofs.resolution.resolve_parts.Goals as goal

pub returns-in_err-init-clause-refused : goal.returns-in_err-init-clause-refused
returns-in_err-init-clause-refused c =
    let protocol = c.args.protocol.now in
    let texts = protocol.sections in
    let rules = first_fault_of (rule_fault texts) [] protocol.rules in
    let bad = first_fault_of (λ _. row_fault texts) [] protocol.bad in
    let init = first_fault_of (λ _. row_fault texts) [] protocol.init in
    let e = c.in_err-init.field-0.0 in
    let p = err_from_is_err_and c.from_residual.result c.from_residual.ensures.1 in
    rw (p.1, p.2)
    (or_right (first_fault_of section_fault [] texts) (option_or init (option_or rules bad)) e c.requires.clean
    (or_left init (option_or rules bad) e (rw (c.requires.sections, c.as_slice.ensures) at c.in_err-init.ensures)))

pub returns-in_err-rules-clause-refused : goal.returns-in_err-rules-clause-refused
returns-in_err-rules-clause-refused c =
    let protocol = c.args.protocol.now in
    let texts = protocol.sections in
    let rules = first_fault_of (rule_fault texts) [] protocol.rules in
    let bad = first_fault_of (λ _. row_fault texts) [] protocol.bad in
    let init = first_fault_of (λ _. row_fault texts) [] protocol.init in
    let e = c.in_err-rules.field-0.0 in
    let p = err_from_is_err_and c.from_residual-in_err-rules.result c.from_residual-in_err-rules.ensures.1 in
    rw (p.1, p.2)
    (or_right (first_fault_of section_fault [] texts) (option_or init (option_or rules bad)) e c.requires.clean
    (or_right init (option_or rules bad) e (rw (c.requires.sections, c.as_slice.ensures) at c.in_ok-init.ensures.0)
    (or_left rules bad e (rw (c.requires.sections, c.as_slice-2.ensures) at c.in_err-rules.ensures))))

pub returns-in_err-bad-clause-refused : goal.returns-in_err-bad-clause-refused
returns-in_err-bad-clause-refused c =
    let protocol = c.args.protocol.now in
    let texts = protocol.sections in
    let rules = first_fault_of (rule_fault texts) [] protocol.rules in
    let bad = first_fault_of (λ _. row_fault texts) [] protocol.bad in
    let init = first_fault_of (λ _. row_fault texts) [] protocol.init in
    let e = c.in_err-bad.field-0.0 in
    let p = err_from_is_err_and c.from_residual-in_err-bad.result c.from_residual-in_err-bad.ensures.1 in
    rw (p.1, p.2)
    (or_right (first_fault_of section_fault [] texts) (option_or init (option_or rules bad)) e c.requires.clean
    (or_right init (option_or rules bad) e (rw (c.requires.sections, c.as_slice.ensures) at c.in_ok-init.ensures.0)
    (or_right rules bad e (rw (c.requires.sections, c.as_slice-2.ensures) at c.in_ok-rules.ensures.0)
    (rw (c.requires.sections, c.as_slice-3.ensures) at c.in_err-bad.ensures))))

pub system_with-requires-clause-clean : goal.system_with-requires-clause-clean
system_with-requires-clause-clean c =
    let protocol = c.args.protocol.now in
    let texts = protocol.sections in
    let init = rw (c.requires.sections, c.as_slice.ensures) at c.in_ok-init.ensures in
    let rules = rw (c.requires.sections, c.as_slice-2.ensures) at c.in_ok-rules.ensures in
    let bad = rw (c.requires.sections, c.as_slice-3.ensures) at c.in_ok-bad.ensures in
    or_none (first_fault_of section_fault [] texts) _ c.requires.clean
    (or_none (first_fault_of (λ _. row_fault texts) [] protocol.init) _ init.0
    (or_none (first_fault_of (rule_fault texts) [] protocol.rules) _ rules.0 bad.0))

pub system_with-requires-clause-init : goal.system_with-requires-clause-init
system_with-requires-clause-init c = rw (c.requires.sections, c.as_slice.ensures) at c.in_ok-init.ensures.1

pub system_with-requires-clause-rules : goal.system_with-requires-clause-rules
system_with-requires-clause-rules c = rw (c.requires.sections, c.as_slice-2.ensures) at c.in_ok-rules.ensures.1

pub system_with-requires-clause-bad : goal.system_with-requires-clause-bad
system_with-requires-clause-bad c = rw (c.requires.sections, c.as_slice-3.ensures) at c.in_ok-bad.ensures.1
