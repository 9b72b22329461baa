use Rattle.std.proofs.Common.{IfOk, rules}
use Rattle.property_batch.specs.PropertyVerdicts.{AreVerdicts}
use Rattle.property_batch.proofs.VerdictLists.{verdicts-of-results}
use Rattle.property_batch.proofs.searches.+fn-search_all-join+arg2+fn-search_all-join+arg3+search_all.Goals as goal

pub returns : goal.returns
returns g t c =
    let budget = c.args.budget in
    let first = c.split_at.result.0.now in
    let second = c.split_at.result.1.now in
    let left : IfOk c.join-first_verdicts.result.0 (λ verdicts. AreVerdicts budget first verdicts.items) = search rules in
    let right : IfOk c.join-first_verdicts.result.1 (λ verdicts. AreVerdicts budget second verdicts.items) = search rules in
    verdicts-of-results budget c.args.properties.now first second c.join-first_verdicts.result.0 c.join-first_verdicts.result.1
    c.concatenate.result c.split_at.ensures.by_index.0 left right c.concatenate.ensures
