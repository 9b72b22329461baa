use Rattle.protocol_layout.specs.Layout.{line, row_words}
use Rattle.protocol_layout.proofs.WordsWritten.{each_more, each_all}
use Rattle.protocol_layout.proofs.write_rows.Goals as goal

pub rows-preserved : goal.rows-preserved
rows-preserved c =
    each_more line (row_words c.args.head.now) c.args.rows.now c.rows.row-index c.row-item.result c.args.out.now.items c.rows.out.items c.write_row.new.out.items
    c.rows-test.true c.row-item.is c.rows.invariant c.in_ok-write_row.ensures

pub returns : goal.returns
returns c = each_all line (row_words c.args.head.now) c.args.rows.now c.rows.row-index c.args.out.now.items c.rows.out.items c.rows-test.false c.rows.invariant
