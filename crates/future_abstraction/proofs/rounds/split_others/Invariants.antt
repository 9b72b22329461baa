use Rattle.std.proofs.Common.{nat_eq}
use Rattle.std.specs.HashMap.{get}
use Rattle.future_abstraction.proofs.Numbering.{HasNumbers}
use Rattle.future_abstraction.proofs.rounds.split_others.Given as goal

abbrev pub invariant-states : goal.invariant-states
invariant-states l = HasNumbers l.automaton l.classes l.kept (get nat_eq l.firsts) l.finer.items l.state
