use Rattle.abstraction.specs.ClassAutomata.{HasClassMoves}
use Rattle.abstraction.proofs.class_automaton.add_all_edges.Given as goal

abbrev pub invariant-states : goal.invariant-states
invariant-states l = HasClassMoves l.a l.firsts l.seen.states.items l.builder l.state 0
