use Rattle.std.proofs.Common.{◌<◌, length, get_or, refl, arith}
use Rattle.past_abstraction.proofs.ImageStates.{puts_none, puts_more}
use Rattle.past_abstraction.proofs.images.put_edges.Goals as goal

pub edges-init : goal.edges-init
edges-init c = puts_none c.args.lists.now.items

pub edges-preserved : goal.edges-preserved
edges-preserved c =
    let edges = c.args.edges.now in
    let i = c.edges.letter-index in
    let inside : i < length edges = omega arith in
    let edge = get_or edges i (0, 0) in
    let before = c.edges.invariant in
    let within : edge.0 < length c.edges.lists.items = (let r = c.requires i (0, 0) inside in let n = before.count in omega arith) in
    puts_more edges i edge.0 edge.1 inside refl c.args.lists.now.items c.edges.lists.items c.index_mut-list.result.now c.push.new.self within c.index_mut-list.ensures.value
    c.in_ok-push.ensures.items before
