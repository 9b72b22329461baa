use Rattle.exploration.proofs.Chains.{IsWalking}
use Rattle.exploration.proofs.incoming.follow.Given as goal

abbrev pub invariant-edges : goal.invariant-edges
invariant-edges l = IsWalking l.last l.edges l.state l.fn.found.items l.found.items l.number

abbrev pub decreases-edges : goal.decreases-edges
decreases-edges l = l.number
