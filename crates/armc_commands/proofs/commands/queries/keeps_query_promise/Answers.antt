use Rattle.armc_commands.proofs.QueryLemmas.{query-promised}
use Rattle.armc_commands.proofs.commands.queries.keeps_query_promise.Goals as goal

pub returns : goal.returns
returns c = query-promised c.keep_search_promises.ensures
