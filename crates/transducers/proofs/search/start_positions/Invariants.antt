use Rattle.std.proofs.Common.{take}
use Rattle.transducers.specs.Search.{AreStarts}
use Rattle.transducers.proofs.search.start_positions.Given as goal

abbrev pub invariant-starts : goal.invariant-starts
invariant-starts l = AreStarts (take l.start-index l.start-items) l.found.keys
