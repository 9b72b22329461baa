use Rattle.std.proofs.Common.{◌≡◌, ◌∙◌, true, None, length, ap, subst, arith}
use Rattle.std.specs.Prelude.{slice_get}
use Rattle.std.proofs.lemmas.Option.{slice_get_past}
use Rattle.protocol_model.specs.declared.system.Rule.{Rule}
use Rattle.protocol_model.specs.System.{IsValid}
use Rattle.protocol_model.specs.Patterns.{fits}
use Rattle.protocol_steps.proofs.StepLemmas.{rule_few, rule_at, step_by_rule, no_step_past}
use Rattle.protocol_steps.proofs.steps.is_step.Goals as goal
use Rattle.protocol_steps.proofs.steps.is_step.Goals.{then-fits, else-fits}

pub all_change-requires : goal.all_change-requires
all_change-requires c =
    rule_few c.args.system.now c.as_slice.result.now c.args.rule c.in-Some.rule.now c.as_slice-then-fits-2.result.now
    (subst IsValid c.system.view_is c.system.invariant) (c.as_slice.ensures ∙ ap (λ d. d.rules) c.system.view_is)
    c.in-Some.ensures.lookup.3.0 c.in-Some.ensures.lookup.1 c.as_slice-then-fits-2.ensures

pub returns-then-fits-2 : goal.returns-then-fits-2
returns-then-fits-2 c =
    let s = c.args.system.now in
    let rules = c.as_slice.ensures ∙ ap (λ d. d.rules) c.system.view_is in
    let fit : (fits s c.args.c.now ≡ true) × (fits s c.args.d.now ≡ true) =
    elim c.if-fits.branch [
      | then-fits w ↦ (first_of (cc, grind arith), first_of (cc, grind arith))
      | else-fits w ↦ absurd cc
    ] in
    step_by_rule s c.args.rule c.args.c.now c.args.d.now c.in-Some.rule.now c.as_slice-then-fits-2.result.now c.len-sections.result c.all_change.result
    (rule_at s c.as_slice.result.now c.args.rule c.in-Some.rule.now rules c.in-Some.ensures.lookup.3.0 c.in-Some.ensures.lookup.1)
    fit.0 fit.1 c.as_slice-then-fits-2.ensures (c.len-sections.ensures ∙ ap (λ d. length d.sections) c.system.view_is) c.all_change.ensures

pub returns-in-None : goal.returns-in-None
returns-in-None c =
    let s = c.args.system.now in
    let rules = c.as_slice.ensures ∙ ap (λ d. d.rules) c.system.view_is in
    let past : slice_get s.rules c.args.rule ≡ None =
    subst (λ xs. slice_get xs c.args.rule ≡ None) rules (slice_get_past c.as_slice.result.now c.args.rule c.in-None.ensures.lookup.3) in
    (λ never. absurd cc, λ step. absurd (no_step_past s c.args.rule c.args.c.now c.args.d.now past step))
