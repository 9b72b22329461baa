use Rattle.std.proofs.Common.{All, take}
use Rattle.image_preimage.specs.private.CopyingStates.{IsCopyingEdge}
use Rattle.image_preimage.proofs.copying_states.are_copying_edges.Given as goal

abbrev pub invariant-edges : goal.invariant-edges
invariant-edges l = All (IsCopyingEdge l.flags) (take l.label-index l.edges)
