use Rattle.std.proofs.Common.{get_or, arith}
use Rattle.bit_set.specs.SetLists.{HasAt, HasRoom}
use Rattle.bit_set.proofs.ForCallers.{adds_first, adds_more, adds_all}
use Rattle.atoms.specs.private.Places.{IsSource}
use Rattle.atoms.proofs.preimages.add_preimages.Goals as goal

pub places-init : goal.places-init
places-init c = adds_first HasAt HasRoom (λ m. IsSource c.args.into.now c.args.used.now (get_or c.args.places.now m 0)) c.args.sets.now.items

pub places-preserved : goal.places-preserved
places-preserved c =
    adds_more HasAt HasRoom (λ m. IsSource c.args.into.now c.args.used.now (get_or c.args.places.now m 0)) c.places.place-index c.args.sets.now.items
    c.places.sets.items c.add_sources_of-more.new.sets.items c.places.invariant c.add_sources_of-more.ensures

pub returns : goal.returns
returns c =
    adds_all HasAt HasRoom (IsSource c.args.into.now c.args.used.now) c.args.places.now 0 c.places.place-index c.args.sets.now.items c.places.sets.items
    (let t = c.places-test.false in omega arith) c.places.invariant
