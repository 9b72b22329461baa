use Rattle.std.proofs.Common.{◌∙◌}
use Rattle.past_abstraction.proofs.images.take_all.Goals as goal

pub returns-clause-same : goal.returns-clause-same
returns-clause-same c = c.from_vec.ensures ∙ c.in_ok-states.ensures.items ∙ c.deref.ensures.value
