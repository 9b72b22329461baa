use Rattle.std.proofs.Common.{arith}
use Rattle.atoms.proofs.RowsByState.{no_row, row_added}
use Rattle.atoms.proofs.rows.add_to_row.Goals as goal

pub returns-then-place-used : goal.returns-then-place-used
returns-then-place-used c = no_row c.args.used.now c.args.number c.args.place c.args.rows.now.items (let t = c.if-place-used.true in omega arith)

pub returns : goal.returns
returns c = row_added c.args.used.now c.args.number c.args.place c.args.rows.now.items c.insert_at.new.sets.items (let t = c.if-place-used.false in omega arith) c.insert_at.ensures
