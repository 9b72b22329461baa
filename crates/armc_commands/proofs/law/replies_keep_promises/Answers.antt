use Rattle.armc_commands.proofs.Promised.{promised}
use Rattle.armc_commands.proofs.law.replies_keep_promises.Goals as goal

pub returns : goal.returns
returns c = promised c.keep_promises.ensures
