use Rattle.std.proofs.Common.{None}
use Rattle.armc_commands.specs.declared.search_reply.Telling.TheVariants.{Certificate}
use Rattle.armc_commands.proofs.CheckAllLemmas.{check-all-once}
use Rattle.armc_commands.proofs.CommandsOnce.{command_once, migrate_once, steps_once, verify_once}
use Rattle.armc_commands.proofs.SearchLemmas.{search-once}
use Rattle.armc_commands.proofs.WorkersLemmas.{workers_keep}
use Rattle.armc_commands.proofs.law.workers_keep_reply.Goals as goal

pub returns : goal.returns
returns c =
    workers_keep c.one_reading.ensures.protocol c.one_reading.ensures.fault c.one_reading.ensures.either
    (command_once c.texts_say_allowed_protocols.ensures.allowed c.texts_say_allowed_protocols.ensures.valid
    (λ s valid text. verify_once c.one_reading-3.ensures.meaning c.one_reading-3.ensures.fault c.one_reading-3.ensures.either s valid text c.one_answer-2.ensures)
    (migrate_once c.one_reading-3.ensures.meaning c.one_reading-3.ensures.fault c.one_reading-3.ensures.either)
    (steps_once c.one_reading-2.ensures.configuration c.one_reading-2.ensures.fault c.one_reading-2.ensures.either c.one_answer.ensures.successors)
    (check-all-once c.one_reading_of_properties.ensures.properties c.one_reading_of_properties.ensures.fault c.one_reading_of_properties.ensures.either
    (search-once c.one_verdict.ensures.verdict c.one_verdict.ensures.text (Certificate None)))
    (search-once c.one_verdict.ensures.verdict c.one_verdict.ensures.text))
