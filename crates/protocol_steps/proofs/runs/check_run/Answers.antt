use Rattle.std.proofs.Common.{◌≡◌, arith, true, false}
use Rattle.protocol_model.specs.Patterns.{is_initial}
use Rattle.protocol_steps.proofs.RunLemmas.{checked_more, first_wrong}
use Rattle.protocol_steps.proofs.runs.check_run.Goals as goal

pub returns-then-not-is_step : goal.returns-then-not-is_step
returns-then-not-is_step c =
    let begins : is_initial c.args.system.now c.args.run.now.first ≡ true = first_of (cc, grind arith) in
    let fails : c.is_step.result ≡ false = first_of (cc, grind arith) in
    first_wrong c.args.system.now c.args.run.now c.steps.i c.steps.last.now c.step-item.result c.as_slice-step-items.result.now
    c.as_slice-step-items.ensures c.steps-test.true c.step-item.is begins c.steps.invariant c.is_step.result fails c.is_step.ensures.1

pub steps-preserved : goal.steps-preserved
steps-preserved c =
    let goes : c.is_step.result ≡ true = first_of (cc, grind arith) in
    checked_more c.args.system.now c.args.run.now.first c.args.run.now.steps c.steps.i c.steps.last.now c.step-item.result
    c.as_slice-step-items.result.now c.as_slice-step-items.ensures
    c.steps-test.true c.step-item.is c.steps.invariant (c.is_step.ensures.0 goes)
