use Rattle.std.proofs.Common.{sym, subst}
use Rattle.std.proofs.lemmas.Result.{IfOk-weaker}
use Rattle.boolean_operations.specs.private.DeadStates.{AreRejecting}
use Rattle.boolean_operations.proofs.PairWalks.{included_where_none}
use Rattle.boolean_operations.proofs.inclusion.included.Goals as goal

pub least_word_of_pairs-requires : goal.least_word_of_pairs-requires
least_word_of_pairs-requires g c = subst (AreRejecting (g.A.FiniteAutomaton.automaton c.args.a.now)) (sym c.deref.ensures.value) c.in_ok-flags.ensures

pub returns : goal.returns
returns g c = IfOk-weaker c.least_word_of_pairs.result _ _ (included_where_none (g.A.FiniteAutomaton.automaton c.args.a.now) c.args.b.now _) c.least_word_of_pairs.ensures
