use Rattle.std.proofs.Common.{◌≡◌, length}
use Rattle.abstraction.specs.ClassAutomata.{known_at}
use Rattle.abstraction.proofs.Firsts.{HasFirsts}
use Rattle.abstraction.proofs.class_numbers.first_states_by_table.Given as goal

abbrev pub invariant-states : goal.invariant-states
invariant-states l = record {
  count : length l.known.items ≡ l.places;
  firsts : HasFirsts (known_at l.known.items) l.classes l.firsts.items l.state;
}
