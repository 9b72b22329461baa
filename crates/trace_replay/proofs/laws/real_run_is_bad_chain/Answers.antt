use Rattle.trace_replay.proofs.Climbs.{real_run_is_bad_chain}
use Rattle.trace_replay.proofs.laws.real_run_is_bad_chain.Goals as goal

pub returns : goal.returns
returns g c = real_run_is_bad_chain (g.P.Problem.task c.args._problem.now)
