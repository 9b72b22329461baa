use Rattle.certificate_checker.proofs.Parts.{proves}
use Rattle.certificate_checker.proofs.judgement.judge_automaton.Goals as goal

pub returns-in-None : goal.returns-in-None
returns-in-None c =
    proves c.args.system.now c.args.automaton.now (rw c.in_default.is at c.in_ok-missing.ensures)
    (rw c.in_default-2.is at c.in_ok-held.ensures) (rw c.in-None.is at c.in_ok-exit.ensures)
