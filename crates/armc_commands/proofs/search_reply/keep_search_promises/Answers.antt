use Rattle.armc_commands.proofs.SearchLemmas.{search-promised}
use Rattle.armc_commands.proofs.search_reply.keep_search_promises.Goals as goal

pub returns : goal.returns
returns c =
    search-promised c.verdicts_have_histories.ensures.histories c.verdicts_have_histories.ensures.no_others c.verdicts_show.ensures.sound
    c.verdicts_show.ensures.verdicts c.verdicts_show.ensures.texts c.no_language_is_refuted_twice.ensures c.keys_bound_rounds.ensures
    c.runs_bound_rounds.ensures.histories
