use Rattle.std.proofs.Common.{arith}
use Rattle.bit_set.proofs.Additions.{adds_number_at, adds_past}
use Rattle.bit_set.proofs.set_lists.insert_at.Goals as goal

pub returns-then-place-len : goal.returns-then-place-len
returns-then-place-len c = adds_past c.args.sets.now.items c.args.place c.args.number (let t = c.if-place-len.true in let e = c.len.ensures in omega arith)

pub returns : goal.returns
returns c =
    adds_number_at c.args.sets.now.items c.args.place c.args.number c.index_mut-set.result.now c.insert.new.self
    (let t = c.if-place-len.false in let e = c.len.ensures in omega arith) c.index_mut-set.ensures.value
    c.insert.ensures.only c.insert.ensures.kept c.insert.ensures.added c.insert.ensures.room
