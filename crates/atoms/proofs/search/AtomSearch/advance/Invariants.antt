use Rattle.std.proofs.Common.{◌-◌, ◌^◌}
use Rattle.atoms.specs.private.Family.{IsUnderWay}
use Rattle.atoms.proofs.search.AtomSearch.advance.Given as goal

abbrev pub invariant-sets : goal.invariant-sets
invariant-sets l = IsUnderWay l.automaton l.used.items l.into.items l.preimages.items l.family.sets.items l.family.seen.keys l.next

abbrev pub decreases-sets : goal.decreases-sets
decreases-sets l = 2 ^ 64 - l.next
