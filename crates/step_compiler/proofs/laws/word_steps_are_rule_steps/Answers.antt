use Rattle.step_compiler.proofs.RuleLemmas.{word_step}
use Rattle.step_compiler.proofs.laws.word_steps_are_rule_steps.Goals as goal

pub returns : goal.returns
returns c s u w = word_step s u w
