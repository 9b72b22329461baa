use Rattle.std.proofs.Common.{◌⊎◌, subst}
use Rattle.past_abstraction.specs.private.PastSets.{IsKnown, IsNew}
use Rattle.past_abstraction.proofs.Expanding.{one_single}
use Rattle.past_abstraction.proofs.past_automaton.past_automaton.Goals as goal

pub states-preserved : goal.states-preserved
states-preserved c =
    one_single c.states.state c.args.a.now.letters c.states.builder c.number_of.new.builder c.states.sets.keys c.number_of.new.sets.keys
    c.in_ok-number_of.field-0 c.states.invariant
    (subst (λ set. IsKnown c.states.builder c.number_of.new.builder c.states.sets.keys c.number_of.new.sets.keys set c.in_ok-number_of.field-0
    ⊎ IsNew c.states.builder c.number_of.new.builder c.states.sets.keys c.number_of.new.sets.keys set c.in_ok-number_of.field-0) c.from_state.ensures
    c.in_ok-number_of.ensures)
