use Rattle.std.proofs.Common.{◌<◌, length, arith, None}
use Rattle.std.proofs.lemmas.List.{take_more}
use Rattle.transducers.proofs.SearchLemmas.{Expands-followed, Expands-blocked}
use Rattle.transducers.proofs.search.expand.Goals as goal
use Rattle.transducers.proofs.search.expand.Goals.{in-Some+in_ok-insert, in_default}

pub edges-preserved : goal.edges-preserved
edges-preserved c =
    let lt : c.edges.edge-index < length c.edges-edge-items.result.now = omega arith in
    let more = take_more c.edges-edge-items.result.now c.edges.edge-index (record { read = None; write = None }, 0) lt in
    elim c.match-follow.branch [
      | in-Some+in_ok-insert w ↦ rw (more, w.found-is)
          (Expands-followed _ _ _ _ _ _ _ _ _ c.edges.invariant w.in-Some.ensures w.in_ok-insert.ensures)
      | in_default w ↦ rw (more, w.found-is) (Expands-blocked _ _ _ _ _ _ _ c.edges.invariant w.in_default.ensures)
    ]
