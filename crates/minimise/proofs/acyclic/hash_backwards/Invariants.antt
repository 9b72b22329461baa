use Rattle.minimise.proofs.HashesFromTheEnd.{AreHashesFrom}
use Rattle.minimise.proofs.acyclic.hash_backwards.Given as goal

abbrev pub invariant-states : goal.invariant-states
invariant-states l = AreHashesFrom l.automaton l.classes.items l.state

abbrev pub decreases-states : goal.decreases-states
decreases-states l = l.state
