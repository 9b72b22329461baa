use Rattle.std.proofs.Common.{◌≡◌, [], ◌∷◌, None, Some, ◌⊎◌, take, get_or, refl, subst}
use Rattle.std.specs.Option.{option_or}
use Rattle.std.proofs.lemmas.List.{take_more, map-append}
use Rattle.std.proofs.lemmas.Result.{err_from_is_err_and}
use Rattle.protocol_model.specs.Numbering.{rule_of}
use Rattle.protocol_model.specs.Faults.{duplicate, first_fault_of, rule_fault, step_fault}
use Rattle.protocol_model.specs.declared.fault.ModelFault.TheVariants.{Memory}
use Rattle.protocol_model.proofs.Walk.{stops, goes_on}
use Rattle.protocol_model.proofs.rules.resolve_rules_named.Goals as goal

pub returns-in_err-next : goal.returns-in_err-next
returns-in_err-next c =
    let walk = c.rules in
    let sections = c.args.sections.now in
    let item = c.rule-item.result in
    let e = c.in_err-next.field-0.0 in
    let steps = first_fault_of (step_fault sections) [] item.moves in
    let p = err_from_is_err_and c.from_residual.result c.from_residual.ensures.1 in
    rw (p.1, p.2)
    (stops (rule_fault sections) (rule_of sections) c.args.rules.now walk.rule-index walk.resolved.items item e
    c.rules-test.true walk.invariant.0 c.rule-item.is
    (subst (λ names. (option_or (duplicate names item.name) steps ≡ Some e) ⊎ (e ≡ Memory)) walk.invariant.1 c.in_err-next.ensures.outcome))

pub rules-preserved : goal.rules-preserved
rules-preserved c =
    let walk = c.rules in
    let sections = c.args.sections.now in
    let item = c.rule-item.result in
    let steps = first_fault_of (step_fault sections) [] item.moves in (
      rw c.in_ok-push.ensures.items
          (goes_on (rule_fault sections) (rule_of sections) c.args.rules.now walk.rule-index walk.resolved.items item c.in_ok-next.next
          c.rules-test.true walk.invariant.0 c.rule-item.is
          (subst (λ names. option_or (duplicate names item.name) steps ≡ None) walk.invariant.1 c.in_ok-next.ensures.outcome.0)
          c.in_ok-next.ensures.outcome.1),
      rw (
        c.in_ok-next.ensures.added,
        walk.invariant.1,
        take_more c.args.rules.now walk.rule-index item c.rules-test.true,
        map-append (λ rule. rule.name.text) (take walk.rule-index c.args.rules.now) (get_or c.args.rules.now walk.rule-index item ∷ []),
        ← c.rule-item.is,
      ) refl,
    )
