use Rattle.std.proofs.Common.{length, arith}
use Rattle.bit_set.proofs.Additions.{adds_past_table, adds_with_room}
use Rattle.bit_set.proofs.set_lists.insert_with_room.Goals as goal

pub returns-then-place-len : goal.returns-then-place-len
returns-then-place-len c =
    adds_past_table (length c.args.empty.now) c.args.sets.now.items c.args.place c.args.number (let t = c.if-place-len.true in let e = c.len.ensures in omega arith)

pub returns : goal.returns
returns c =
    adds_with_room (length c.args.empty.now) c.args.sets.now.items c.args.place c.args.number c.index_mut-set.result.now c.make_room.new.self c.insert.new.self
    (let t = c.if-place-len.false in let e = c.len.ensures in omega arith) c.index_mut-set.ensures.value
    c.in_ok-make_room.ensures.same c.in_ok-make_room.ensures.room c.insert.ensures.only c.insert.ensures.kept c.insert.ensures.added
