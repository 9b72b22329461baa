use Rattle.image_preimage.specs.private.Triples.{AddsPlaces}
use Rattle.image_preimage.proofs.inclusion.push_places.Given as goal

abbrev pub invariant-places : goal.invariant-places
invariant-places l = AddsPlaces l.initial.pending.items l.pending.items l.from l.place
