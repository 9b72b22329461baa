use Rattle.std.specs.Prelude.{⊤}
use Rattle.predicate_abstraction.proofs.shares.states.Given as goal

abbrev pub invariant-automata : goal.invariant-automata
invariant-automata l = ⊤
