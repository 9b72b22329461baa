use Rattle.protocol_model.proofs.Copied.{copied_more, copied_all}
use Rattle.protocol_model.proofs.copies.copy_each.Goals as goal

pub items-preserved : goal.items-preserved
items-preserved g c =
    copied_more c.args.items.now c.items.item-index c.items.copies.items c.items.invariant c.item-item.result _ c.push.new.self.items c.items-test.true c.item-item.is
    c.in_ok-copy.ensures c.in_ok-push.ensures.items

pub returns : goal.returns
returns g c = copied_all c.args.items.now c.items.item-index c.items.copies.items c.items.invariant c.from_vec.result c.items-test.false c.from_vec.ensures
