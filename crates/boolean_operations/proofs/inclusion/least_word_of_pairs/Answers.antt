use Rattle.std.proofs.lemmas.Result.{IfOk-weaker}
use Rattle.boolean_operations.proofs.PairWalks.{least_of_pairs}
use Rattle.boolean_operations.proofs.inclusion.least_word_of_pairs.Goals as goal

pub returns : goal.returns
returns g c =
    IfOk-weaker c.least_word_to_goal.result _ _
    (least_of_pairs (g.A.FiniteAutomaton.automaton c.args.a.now) c.args.b.now c.args.dead.now c.requires c.args.wanted (λ v. v.items)) c.least_word_to_goal.ensures
