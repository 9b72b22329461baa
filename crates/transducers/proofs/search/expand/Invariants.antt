use Rattle.std.proofs.Common.{take}
use Rattle.transducers.specs.Search.{Expands}
use Rattle.transducers.proofs.search.expand.Given as goal

abbrev pub invariant-edges : goal.invariant-edges
invariant-edges l = Expands (take l.edge-index l.edge-items) l.u l.w l.position l.initial.found.keys l.found.keys
