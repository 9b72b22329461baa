use Rattle.protocol_search.specs.Methods.{predicate_search}
use Rattle.protocol_search.specs.declared.search.Analysis.TheVariants.{Forward}
use Rattle.property_batch.proofs.law.property_verdicts_show.Goals as goal

pub returns-clause-sound : goal.returns-clause-sound
returns-clause-sound c budget property v is = c.verdicts_show.ensures.sound property.system (predicate_search Forward budget) v is

pub returns-clause-verdicts : goal.returns-clause-verdicts
returns-clause-verdicts c budget property v is = c.verdicts_show.ensures.verdicts property.system (predicate_search Forward budget) v is
