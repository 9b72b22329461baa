use Rattle.protocol_steps.proofs.RunLemmas.{IsCheckedTo}
use Rattle.protocol_steps.proofs.runs.check_run.Given as goal

-- the steps before i are steps, and lead to the last configuration
abbrev pub invariant-steps : goal.invariant-steps
invariant-steps l = IsCheckedTo l.system l.run.first l.run.steps l.i l.last
