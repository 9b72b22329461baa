use Rattle.armc_commands.proofs.CheckAllLemmas.{check-all-promised}
use Rattle.armc_commands.proofs.commands.checkall.keeps_check_all_promise.Goals as goal

pub returns : goal.returns
returns c = check-all-promised c.keep_search_promises.ensures
