use Rattle.protocol_model.proofs.Walk.{IsWalked}
use Rattle.protocol_model.proofs.traversal.resolve_each.Given as goal

abbrev pub invariant-items : goal.invariant-items
invariant-items g l =
    IsWalked (g.R.Resolver.fault l.resolver) (g.R.Resolver.value l.resolver) l.items l.i l.values.items
