use Rattle.std.proofs.Common.{◌<◌, length, arith}
use Rattle.std.proofs.lemmas.List.{take_more}
use Rattle.transducers.proofs.SearchLemmas.{AreStarts-more}
use Rattle.transducers.proofs.search.start_positions.Goals as goal

pub starts-preserved : goal.starts-preserved
starts-preserved c =
    let lt : c.starts.start-index < length c.starts-start-items.result.now = omega arith in
    rw (take_more c.starts-start-items.result.now c.starts.start-index 0 lt)
    (AreStarts-more _ _ _ _ c.starts.invariant c.in_ok-insert.ensures)
