use Rattle.armc_commands.proofs.SearchLemmas.{generate-promised}
use Rattle.armc_commands.proofs.commands.generate.keeps_generate_promise.Goals as goal

pub returns : goal.returns
returns c = generate-promised c.keep_search_promises.ensures
