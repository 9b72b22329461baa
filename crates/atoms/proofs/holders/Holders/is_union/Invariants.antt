use Rattle.atoms.proofs.Unions.{AreMet}
use Rattle.atoms.proofs.holders.Holders.is_union.Given as goal

abbrev pub invariant-places : goal.invariant-places
invariant-places l = AreMet l.sets l.set l.union
