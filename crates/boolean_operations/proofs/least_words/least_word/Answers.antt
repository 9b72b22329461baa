use Rattle.std.proofs.Common.{ap, ◌∙◌}
use Rattle.std.proofs.lemmas.Result.{IfOk-weaker}
use Rattle.word_automata.specs.Automaton.{Automaton}
use Rattle.word_automata.specs.Nondeterministic.{as_nondeterministic}
use Rattle.boolean_operations.proofs.DeadStates.{rejecting_none}
use Rattle.boolean_operations.proofs.PairWalks.{least_accepted}
use Rattle.boolean_operations.proofs.least_words.least_word.Goals as goal

pub least_word_of_pairs-requires : goal.least_word_of_pairs-requires
least_word_of_pairs-requires c = rejecting_none (as_nondeterministic c.args.a.now)

pub returns : goal.returns
returns c =
    IfOk-weaker c.least_word_of_pairs.result _ _
    (least_accepted c.args.a.now c.states-valid.ensures.valid c.finish-nothing.result (ap (λ (m : Automaton). m.states) (c.finish-nothing.ensures ∙ c.new.ensures)) (λ v. v.items))
    c.least_word_of_pairs.ensures
