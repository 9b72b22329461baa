use Rattle.std.proofs.Common.{get_or}
use Rattle.std.proofs.lemmas.List.Elements.{Contains-get_or}
use Rattle.determinise.proofs.maximal.is_below_some.Goals as goal

pub returns-then-is_below : goal.returns-then-is_below
returns-then-is_below c t =
    (get_or c.args.states.now c.states.other-index 0, Contains-get_or c.args.states.now c.states.other-index 0 c.states-test.true, c.is_below.ensures c.if-is_below.true)
