use Rattle.protocol_moves.proofs.EndMove.{ring_is}
use Rattle.protocol_moves.proofs.moves.is_ring_move.Goals as goal

pub returns : goal.returns
returns c =
    let was = c.args.was in
    let becomes = c.args.becomes in
    ring_is was.0 was.1 becomes.0 becomes.1 c.args.old.now c.args.new.now c.in-Some.old_rest.now c.in-Some-split_first.new_rest.now
    c.in-Some-split_last.old_between.now c.in-Some-split_last-2.new_between.now
    c.in-Some.old_first.now c.in-Some-split_first.new_first.now c.in-Some-split_last.old_last.now c.in-Some-split_last-2.new_last.now
    c.is_equal.result c.in-Some.ensures.cases.0 c.in-Some-split_first.ensures.cases.0 c.in-Some-split_last.ensures.cases.0
    c.in-Some-split_last-2.ensures.cases.0 c.is_equal.ensures
