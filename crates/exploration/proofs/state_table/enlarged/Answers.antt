use Rattle.std.proofs.Common.{arith}
use Rattle.exploration.proofs.Slots.{moves_none, moves_more, moves_all}
use Rattle.exploration.proofs.state_table.enlarged.Goals as goal

pub old-init : goal.old-init
old-init c = record { moves = moves_none c.args.slots.now c.in_ok-more.more.items }

pub old-preserved : goal.old-preserved
old-preserved c = record {
  moves = moves_more c.args.slots.now c.old.more.items c.put.new.slots.items c.old.code-index c.old.invariant.moves c.put.ensures.kept (λ some. c.in_ok-put.ensures.stands);
}

pub returns : goal.returns
returns c = moves_all c.args.slots.now c.old.more.items c.old.code-index (let t = c.old-test.false in omega arith) c.old.invariant.moves
