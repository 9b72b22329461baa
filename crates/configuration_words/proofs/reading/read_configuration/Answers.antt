use Rattle.std.proofs.Common.{refl}
use Rattle.configuration_words.proofs.GrammarLemmas.{configuration_is_uniform, configuration_is_told, meaning_fits, fault_is, means_nothing}
use Rattle.configuration_words.proofs.reading.read_configuration.Goals as goal

pub parse-requires-clause-uniform : goal.parse-requires-clause-uniform
parse-requires-clause-uniform c = configuration_is_uniform c.args.system.now.sections

pub parse-requires-clause-told : goal.parse-requires-clause-told
parse-requires-clause-told c = configuration_is_told c.args.system.now.sections

pub returns-in-Ok-clause-fits : goal.returns-in-Ok-clause-fits
returns-in-Ok-clause-fits c =
    meaning_fits c.args.system.now.sections c.args.text.now c.in-Ok.found ((c.in-Ok.ensures.meaning c.in-Ok.found).1 refl)

pub returns-in-Err-clause-no_configuration : goal.returns-in-Err-clause-no_configuration
returns-in-Err-clause-no_configuration c =
    rw c.config_fault.ensures (means_nothing c.args.system.now.sections c.args.text.now c.in-Err.fault c.in-Err.ensures.no_meaning)

pub returns-in-Err-clause-fault : goal.returns-in-Err-clause-fault
returns-in-Err-clause-fault c =
    rw c.config_fault.ensures (fault_is c.args.system.now.sections c.args.text.now c.in-Err.fault c.in-Err.ensures.fault)
