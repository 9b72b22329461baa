use Rattle.std.proofs.Common.{sym, subst}
use Rattle.abstraction.specs.ClassAutomata.{HasAllClassMoves}
use Rattle.abstraction.proofs.class_automaton.automaton_of_classes.Goals as goal

pub returns : goal.returns
returns c = subst (HasAllClassMoves c.args.a.now c.args.firsts.now) (sym c.finish.ensures) c.in_ok-add_all_edges.ensures
