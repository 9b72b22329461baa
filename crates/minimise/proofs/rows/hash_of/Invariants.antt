use Rattle.std.proofs.Common.{◌≡◌, take, if◌then◌else◌}
use Rattle.std.specs.List.{filter_map, fold}
use Rattle.minimise.specs.Refinement.{live_edge}
use Rattle.minimise.specs.private.Rounds.{mixed_in_edge}
use Rattle.minimise.proofs.rows.hash_of.Given as goal

abbrev pub invariant-edges : goal.invariant-edges
invariant-edges l = l.value ≡ fold mixed_in_edge (if l.accepting then 1 else 0) (filter_map (live_edge l.classes) (take l.letter-index l.edges))
