use Rattle.std.proofs.Common.{◌≡◌, take}
use Rattle.reduction.specs.private.Renumbering.{states_of}
use Rattle.reduction.proofs.renumbering.states_of.Given as goal

abbrev pub invariant-states : goal.invariant-states
invariant-states l = l.builder ≡ states_of l.automaton (take l.state-index l.states)
