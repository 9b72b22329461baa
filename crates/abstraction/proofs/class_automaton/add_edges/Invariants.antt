use Rattle.abstraction.specs.ClassAutomata.{HasClassMoves}
use Rattle.abstraction.proofs.class_automaton.add_edges.Given as goal

abbrev pub invariant-edges : goal.invariant-edges
invariant-edges l = HasClassMoves l.a l.firsts l.seen.states.items l.builder l.state l.letter-index
