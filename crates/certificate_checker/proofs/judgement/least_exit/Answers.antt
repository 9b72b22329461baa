use Rattle.std.proofs.Common.{◌<◌, length, arith, below_more}
use Rattle.std.proofs.lemmas.Option.{slice_get_within}
use Rattle.certificate_checker.proofs.judgement.least_exit.Goals as goal

pub returns-in-Some : goal.returns-in-Some
returns-in-Some c =
    let found = rw c.in-Some.is at c.in_ok-before.ensures in
    record { earlier_rules = λ q e earlier left. c.rules.invariant q earlier e left; after = found.after; before = found.before }

pub rules-preserved : goal.rules-preserved
rules-preserved c = below_more _ _ c.rules.invariant (rw c.in_default.is at c.in_ok-before.ensures)

-- a rule that leads somewhere is one of the system's
pub returns : goal.returns
returns c = λ r e left.
    let step = left.1.1.1 in
    let within : r < length c.args.system.now.rules = slice_get_within c.args.system.now.rules r step.rule step.is_rule in
    let reached : r < c.rules.rule = omega (arith, within, c.rules-test.false, c.rule_count-rule-end.ensures) in
    c.rules.invariant r reached e left
