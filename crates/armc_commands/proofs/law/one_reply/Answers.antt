use Rattle.armc_commands.proofs.WorkersLemmas.{one_reply}
use Rattle.armc_commands.proofs.law.one_reply.Goals as goal

pub returns : goal.returns
returns c = one_reply c.workers_keep_reply.ensures
