use Rattle.std.proofs.Common.{IfOk, subst}
use Rattle.protocol_search.specs.declared.search.Search.{Search}
use Rattle.armc_commands.specs.declared.search_reply.Telling.{Telling}
use Rattle.armc_commands.specs.SearchReply.{only_part, IsSearchReply}
use Rattle.armc_commands.specs.Commands.Searches.{search_for}
use Rattle.armc_commands.proofs.commands.queries.query_reply.Goals as goal

pub returns : goal.returns
returns g c =
    let r = c.search_reply.result in
    let s = c.args.system.now in
    let by_search =
    subst (λ (x : Search). IfOk r (IsSearchReply c.telling_of-telling.result (only_part s x))) c.search_for-search.ensures.search c.search_reply.ensures in
    subst (λ (t : Telling). IfOk r (IsSearchReply t (only_part s (search_for c.args.query c.args.limits.budget)))) c.telling_of-telling.ensures by_search
