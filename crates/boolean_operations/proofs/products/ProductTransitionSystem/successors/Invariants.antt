use Rattle.std.proofs.Common.{length, ◌-◌, ◌+◌}
use Rattle.boolean_operations.specs.OptionalStates.{edges_at}
use Rattle.boolean_operations.specs.private.MergedEdges.{IsMerging}
use Rattle.boolean_operations.proofs.products.ProductTransitionSystem.successors.Given as goal

abbrev pub invariant-letters : goal.invariant-letters
invariant-letters l =
    IsMerging l.self.operation l.self.left.now l.self.right.now (edges_at l.self.left.now l.state.0) (edges_at l.self.right.now l.state.1) l.i l.j l.successors.items

abbrev pub decreases-letters : goal.decreases-letters
decreases-letters l = (length l.left - l.i) + (length l.right - l.j)
