use Rattle.std.proofs.Common.{[], sym, subst, arith}
use Rattle.property_batch.specs.PropertyVerdicts.{AreVerdicts, no_verdict}
use Rattle.property_batch.proofs.VerdictLists.{verdicts-and-one}
use Rattle.property_batch.proofs.searches.search_in_turn.Goals as goal

pub properties-init : goal.properties-init
properties-init g c = subst (AreVerdicts c.args.budget []) (sym c.in_ok-verdicts.ensures.items) no_verdict

pub properties-preserved : goal.properties-preserved
properties-preserved g c =
    verdicts-and-one c.args.budget c.args.properties.now c.properties.property-index c.property-item.result c.push.new.self.items c.properties.verdicts.items
    c.in_ok-verdict.verdict (omega arith) c.property-item.is c.in_ok-push.ensures.items c.properties.invariant c.in_ok-verdict.ensures
