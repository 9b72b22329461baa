use Rattle.atoms.specs.private.Family.{AreUnions, AddsUnions}
use Rattle.atoms.proofs.Growth.{IsEmptiedBelow}
use Rattle.atoms.proofs.family.Family.take_each.Given as goal

abbrev pub invariant-sets : goal.invariant-sets
invariant-sets l = record {
  seen : AreUnions l.self.sets.items l.self.seen.keys;
  added : AddsUnions l.fn.self.sets.items l.self.sets.items l.fn.sets.items l.at;
  emptied : IsEmptiedBelow l.fn.sets.items l.at l.sets.items;
}
