use Rattle.std.proofs.Common.{◌≡◌}
use Rattle.boolean_operations.specs.OptionalStates.{follow, edges_at}
use Rattle.boolean_operations.specs.private.MergedEdges.{IsPassed}
use Rattle.boolean_operations.proofs.Letters.{valued}
use Rattle.boolean_operations.proofs.complementation.ComplementSystemTransitionSystem.successors.Given as goal

abbrev pub invariant-letters : goal.invariant-letters
invariant-letters l = record {
  made : l.successors.items ≡ valued (follow l.self.automaton.now l.state) l.letter;
  passed : IsPassed (edges_at l.self.automaton.now l.state) l.place l.letter;
}
