use Rattle.std.proofs.Common.{refl, arith}
use Rattle.word_automata.proofs.ForCallers.{has_added_more, has_added_all}
use Rattle.determinise.proofs.subset.set_of.Goals as goal

pub states-preserved : goal.states-preserved
states-preserved c = has_added_more c.args.states.now c.states.set.keys _ c.states.state-index _ (omega arith) refl c.in_ok-add.ensures c.states.invariant

pub returns : goal.returns
returns c = has_added_all c.args.states.now c.states.set.keys c.states.state-index (omega arith) c.states.invariant
