use Rattle.std.proofs.Common.{get_or, ap, arith}
use Rattle.word_automata.proofs.ForCallers.{partial_closure_none, partial_closure_more, partial_closure_all}
use Rattle.determinise.proofs.subset.close.Goals as goal

pub states-init : goal.states-init
states-init c = partial_closure_none c.args.automaton.now c.args.set.now.keys c.requires.states

pub states-preserved : goal.states-preserved
states-preserved c =
    partial_closure_more c.args.automaton.now c.in_ok-add_targets_of.ensures.in_range c.args.set.now.keys c.states.set.keys _ c.states.next _ (omega (arith, c.states-test.true, c.len.ensures.len))
    (ap (λ l. get_or l c.states.next 0) c.as_slice.ensures.keys) c.in_ok-add_targets_of.ensures.targets c.states.invariant

pub returns-clause-closure : goal.returns-clause-closure
returns-clause-closure c =
    partial_closure_all c.args.automaton.now c.args.set.now.keys c.states.set.keys c.states.next (omega (arith, c.states-test.false, c.len.ensures.len)) c.states.invariant
