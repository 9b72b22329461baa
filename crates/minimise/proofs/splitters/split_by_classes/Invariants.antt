use Rattle.word_automata.specs.Automaton.{Automaton, IsValid}
use Rattle.exploration.specs.Incoming.{AreIncoming}
use Rattle.minimise.specs.private.Rounds.{AreToldApart}
use Rattle.minimise.specs.private.Splitters.{AreListed}
use Rattle.minimise.proofs.splitters.split_by_classes.Given as goal

abbrev pub invariant-splitters : goal.invariant-splitters
invariant-splitters l = record {
  sound : (m : Automaton) → IsValid m → AreIncoming m l.incoming → AreToldApart m l.fn.classes.items → AreToldApart m l.classes.items;
  listed : AreListed l.classes.items l.members.items;
}
