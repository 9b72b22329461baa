use Rattle.certificate.proofs.OneReadingLemmas.{meaning_once, fault_once, fault_excludes}
use Rattle.certificate.proofs.safe.one_reading.Goals as goal

pub returns-clause-meaning : goal.returns-clause-meaning
returns-clause-meaning c = meaning_once

pub returns-clause-fault : goal.returns-clause-fault
returns-clause-fault c = fault_once

pub returns-clause-either : goal.returns-clause-either
returns-clause-either c = fault_excludes
