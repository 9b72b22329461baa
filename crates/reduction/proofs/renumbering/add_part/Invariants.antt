use Rattle.reduction.specs.private.Renumbering.{IsPartBelow}
use Rattle.reduction.proofs.renumbering.add_part.Given as goal

abbrev pub invariant-places : goal.invariant-places
invariant-places l = IsPartBelow l.automaton l.states l.place l.builder
