use Rattle.std.proofs.Common.{◌≡◌, take}
use Rattle.determinise.specs.private.Subsets.{moves_from}
use Rattle.determinise.proofs.moves.moves_from.Given as goal

abbrev pub invariant-states : goal.invariant-states
invariant-states l = l.moves.items ≡ moves_from l.automaton (take l.state-index l.states)
