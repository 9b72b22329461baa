use Rattle.std.proofs.Common.{take}
use Rattle.property_batch.specs.PropertyVerdicts.{AreVerdicts}
use Rattle.property_batch.proofs.searches.search_in_turn.Given as goal

abbrev pub invariant-properties : goal.invariant-properties
invariant-properties g l = AreVerdicts l.budget (take l.property-index l.properties) l.verdicts.items
