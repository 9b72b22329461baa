use Rattle.std.proofs.Common.{length}
use Rattle.past_abstraction.proofs.Adding.{adds_states, same_within}
use Rattle.past_abstraction.proofs.word_sets.add_states.Goals as goal

pub add_set-requires-clause-states : goal.add_set-requires-clause-states
add_set-requires-clause-states c = same_within (length c.args.a.now.states) c.args.list.now.items c.in_ok-set.set c.in_ok-set.ensures.same c.requires.states

pub returns-clause-set : goal.returns-clause-set
returns-clause-set c =
    adds_states c.args.list.now.items c.in_ok-set.set c.args.sets.now.keys c.add_set.new.sets.keys c.in_ok-set.ensures.same c.in_ok-add_set.ensures.set
