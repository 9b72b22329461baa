use Rattle.certificate_checker.proofs.Least.{none-of}
use Rattle.certificate_checker.proofs.Parts.{outside}
use Rattle.certificate_checker.proofs.judgement.exit_by.Goals as goal

pub returns-in_default : goal.returns-in_default
returns-in_default c =
    let s = c.args.system.now in
    none-of s _ _ (outside s c.args.automaton.now c.args.rule c.args.step.now c.requires.compiled) (rw c.in_default.is at c.in_ok-target.ensures)

pub exit_to-requires-clause-least : goal.exit_to-requires-clause-least
exit_to-requires-clause-least c = rw c.as_slice.ensures.value (rw c.in-Some.is at c.in_ok-target.ensures)
