use Rattle.std.proofs.Common.{None, get_or, arith}
use Rattle.reduction.proofs.Copies.{move_carried}
use Rattle.reduction.proofs.copying.add_edges.Goals as goal

pub edge-requires : goal.edge-requires
edge-requires c =
    let i = c.edges.letter-index in
    move_carried c.args.builder.now c.edges.builder c.args.state (get_or c.args.edges.now i (None, 0)) c.edges.invariant.same_letters c.edges.invariant.same_size
    (c.requires i (None, 0) (omega arith))
