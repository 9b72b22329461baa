use Rattle.std.proofs.Common.{◌≡◌, [], take}
use Rattle.abstraction.proofs.ClassMoves.{bare_classes}
use Rattle.abstraction.proofs.class_automaton.add_classes.Given as goal

abbrev pub invariant-classes : goal.invariant-classes
invariant-classes l = l.builder ≡ bare_classes l.a.letters [] (take l.accepts-index l.accepting)
