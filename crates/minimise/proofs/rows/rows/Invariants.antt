use Rattle.std.proofs.Common.{◌≡◌, take}
use Rattle.minimise.proofs.rows.rows.Given as goal

abbrev pub invariant-states : goal.invariant-states
invariant-states l = l.rows.items ≡ take l.state l.automaton.states
