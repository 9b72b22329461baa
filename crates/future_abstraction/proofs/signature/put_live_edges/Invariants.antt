use Rattle.std.proofs.Common.{◌≡◌, take}
use Rattle.std.specs.List.{filter_map}
use Rattle.minimise.specs.Refinement.{live_edge}
use Rattle.future_abstraction.proofs.signature.put_live_edges.Given as goal

abbrev pub invariant-edges : goal.invariant-edges
invariant-edges l = l.live.items ≡ filter_map (live_edge l.classes) (take l.letter-index l.edges)
