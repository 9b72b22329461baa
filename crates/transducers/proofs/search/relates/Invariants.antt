use Rattle.std.proofs.Common.{◌-◌, ◌^◌}
use Rattle.transducers.proofs.SearchLemmas.{IsSearching}
use Rattle.transducers.proofs.search.relates.Given as goal

abbrev pub invariant-positions : goal.invariant-positions
invariant-positions l = IsSearching l.t l.u l.w l.found.keys l.next

abbrev pub decreases-positions : goal.decreases-positions
decreases-positions l = 2 ^ 64 - l.next
