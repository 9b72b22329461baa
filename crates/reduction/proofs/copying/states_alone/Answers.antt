use Rattle.std.proofs.Common.{◌∙◌, ap, arith}
use Rattle.word_automata.specs.Nondeterministic.{with_nondeterministic_state}
use Rattle.reduction.proofs.Copies.{first_alone_more}
use Rattle.reduction.proofs.copying.states_alone.Goals as goal

pub states-preserved : goal.states-preserved
states-preserved c =
    c.in_ok-state.ensures.ok ∙ ap (λ m. with_nondeterministic_state m c.accepting.result) c.states.invariant
    ∙ first_alone_more c.args.automaton.now c.states.state c.accepting.result (let e = c.states-state-end.ensures.count in let x = c.states-test.true in omega arith) c.accepting.ensures
