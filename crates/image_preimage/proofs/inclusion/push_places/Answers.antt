use Rattle.std.proofs.Common.{◌≡◌, ◌≤◌, subst, arith}
use Rattle.image_preimage.specs.private.Triples.{AddsPlaces}
use Rattle.image_preimage.proofs.WalkLemmas.{AddsPlaces-more}
use Rattle.image_preimage.proofs.inclusion.push_places.Goals as goal

pub places-preserved : goal.places-preserved
places-preserved c =
    let above : c.args.from ≤ c.places.place = omega arith in
    AddsPlaces-more c.args.pending.now.items c.places.pending.items c.push.new.self.items c.args.from c.places.place above c.places.invariant
    c.in_ok-push.ensures.items

pub returns : goal.returns
returns c =
    let end : c.places.place ≡ c.args.end = omega (arith, c.requires) in
    subst (AddsPlaces c.args.pending.now.items c.places.pending.items c.args.from) end c.places.invariant
