use Rattle.std.proofs.Common.{map}
use Rattle.boolean_operations.proofs.DeadStates.{LeadToFlagged}
use Rattle.boolean_operations.proofs.dead_states.lead_to_flagged.Given as goal

abbrev pub invariant-edges : goal.invariant-edges
invariant-edges g l = LeadToFlagged l.flags (map g.A.FiniteAutomaton.move_of l.edges) l.edge-index
