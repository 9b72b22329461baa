use Rattle.std.proofs.Common.{length, subst}
use Rattle.image_preimage.specs.private.Triples.{AddsPlaces}
use Rattle.image_preimage.proofs.WalkLemmas.{Walks-begun}
use Rattle.image_preimage.proofs.inclusion.walk.Goals as goal

pub walk_on-requires-clause-walks : goal.walk_on-requires-clause-walks
walk_on-requires-clause-walks c =
    let found = c.begin.new.found.states.items in
    let pending = c.push_places.new.pending.items in
    Walks-begun c.in_ok-begin.ensures.reached c.in_ok-begin.ensures.starts
    (subst (λ old. AddsPlaces old pending 0 (length found)) c.new-pending.ensures.items
    (subst (AddsPlaces c.new-pending.result.items pending 0) c.len.ensures c.in_ok-push_places.ensures))
