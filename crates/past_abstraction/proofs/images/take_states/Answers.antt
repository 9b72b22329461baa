use Rattle.std.proofs.Common.{◌↔◌, Contains, sym, subst}
use Rattle.past_abstraction.proofs.images.take_states.Goals as goal

pub returns-then-are_rising-clause-same : goal.returns-then-are_rising-clause-same
returns-then-are_rising-clause-same c q = subst (λ set. Contains set q ↔ Contains c.args.list.now.items q) (sym c.in_ok-take_all.ensures.same) (λ there. there, λ there. there)
