use Rattle.std.proofs.Common.{get_or, arith}
use Rattle.bit_set.specs.SetLists.{HasAt, HasRoom}
use Rattle.bit_set.proofs.ForCallers.{adds_first, adds_more, adds_all}
use Rattle.atoms.specs.private.Rows.{IsNumberAt}
use Rattle.atoms.proofs.rows.add_number.Goals as goal

pub places-init : goal.places-init
places-init c = adds_first HasAt HasRoom (λ m. IsNumberAt c.args.used.now c.args.number (get_or c.args.places.now m 0)) c.args.rows.now.items

pub places-preserved : goal.places-preserved
places-preserved c =
    adds_more HasAt HasRoom (λ m. IsNumberAt c.args.used.now c.args.number (get_or c.args.places.now m 0)) c.places.place-index c.args.rows.now.items
    c.places.rows.items c.add_to_row.new.rows.items c.places.invariant c.add_to_row.ensures

pub returns : goal.returns
returns c =
    adds_all HasAt HasRoom (IsNumberAt c.args.used.now c.args.number) c.args.places.now 0 c.places.place-index c.args.rows.now.items c.places.rows.items
    (let t = c.places-test.false in omega arith) c.places.invariant
