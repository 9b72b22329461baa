use Rattle.std.proofs.Common.{◌≡◌, [], take}
use Rattle.std.specs.List.{filter_map}
use Rattle.minimise.specs.Refinement.{live_edge}
use Rattle.future_abstraction.proofs.rounds.is_dead.Given as goal

abbrev pub invariant-edges : goal.invariant-edges
invariant-edges l = [] ≡ filter_map (live_edge l.classes) (take l.to-index l.edges)
