use Rattle.std.proofs.Common.{nat_eq}
use Rattle.std.specs.HashMap.{get}
use Rattle.abstraction.proofs.Firsts.{HasFirsts}
use Rattle.abstraction.proofs.class_numbers.first_states_by_map.Given as goal

abbrev pub invariant-states : goal.invariant-states
invariant-states l = HasFirsts (get nat_eq l.known) l.classes l.firsts.items l.state
