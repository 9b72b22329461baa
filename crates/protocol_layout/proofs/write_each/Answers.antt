use Rattle.protocol_layout.proofs.WordsWritten.{written_more, written_all}
use Rattle.protocol_layout.proofs.write_each.Goals as goal

pub items-preserved : goal.items-preserved
items-preserved g c =
    written_more g.T.Written.words c.args.items.now c.items.item-index c.item-item.result c.args.out.now.items c.items.out.items c.write.new.out.items
    c.items-test.true c.item-item.is c.items.invariant c.in_ok-write.ensures

pub returns : goal.returns
returns g c = written_all g.T.Written.words c.args.items.now c.items.item-index c.args.out.now.items c.items.out.items c.items-test.false c.items.invariant
