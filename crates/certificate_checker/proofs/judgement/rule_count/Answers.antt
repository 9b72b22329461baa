use Rattle.std.proofs.Common.{length, ap, arith}
use Rattle.certificate_checker.proofs.judgement.rule_count.Goals as goal

pub overflow_cast-result : goal.overflow_cast-result
overflow_cast-result c = omega (arith, ap length c.as_slice.ensures, c.system.invariant.limits.rules_limit)
