use Rattle.std.proofs.Common.{None, get_or}
use Rattle.atoms.specs.private.Adding.{IsListed, IsPlace}
use Rattle.bit_set.proofs.ForCallers.{AddsFirst}
use Rattle.atoms.proofs.Turning.{IsEntryFor}
use Rattle.atoms.proofs.turned_edges.add_edges_from.Given as goal

abbrev pub invariant-edges : goal.invariant-edges
invariant-edges l = AddsFirst IsListed IsPlace (λ m. IsEntryFor l.place (get_or l.edges m (None, 0))) l.letter-index l.fn.into.items l.into.items
