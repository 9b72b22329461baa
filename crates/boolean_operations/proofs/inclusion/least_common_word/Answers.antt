use Rattle.std.proofs.Common.{sym, subst}
use Rattle.boolean_operations.specs.private.DeadStates.{AreRejecting}
use Rattle.boolean_operations.proofs.inclusion.least_common_word.Goals as goal

pub least_word_of_pairs-requires : goal.least_word_of_pairs-requires
least_word_of_pairs-requires g c = subst (AreRejecting (g.A.FiniteAutomaton.automaton c.args.a.now)) (sym c.deref.ensures.value) c.in_ok-flags.ensures

pub returns : goal.returns
returns g c = c.least_word_of_pairs.ensures
