use Rattle.std.proofs.Common.{◌↔◌, ◌∙◌, sym, ap, subst}
use Rattle.transducers.specs.Transducer.{IsValid, Relates}
use Rattle.transducers.specs.Joining.{AreJoined}
use Rattle.transducers.proofs.JoiningLemmas.{joined-is, IsValid-joined, Relates-joined}
use Rattle.transducers.proofs.joining.join_before.Goals as goal

pub invariant_of-result : goal.invariant_of-result
invariant_of-result c = subst IsValid
    (sym (joined-is c.args.part.now c.args.separator c.args.rest _ c.states-behind.result _ _ _ _ _
    (ap (λ t. t.letters) c.rest.view_is) c.states-behind.ensures.states c.new-starts.ensures.items c.in_ok-push_starts.ensures
    (c.as_slice.ensures.value ∙ ap (λ t. t.starts) c.rest.view_is) (c.reserve.ensures.items ∙ ap (λ t. t.states) c.rest.view_is)
    c.in_ok-push_bridged_states.ensures))
    (IsValid-joined c.args.part.now c.args.separator c.args.rest c.states.ensures.valid c.states-behind.ensures.valid
    c.requires.letters c.requires.separator)

pub returns-clause-joined : goal.returns-clause-joined
returns-clause-joined c u w = subst (λ t. Relates t u w ↔ AreJoined c.args.separator (Relates c.args.part.now) (Relates c.args.rest) u w)
    (sym (joined-is c.args.part.now c.args.separator c.args.rest _ c.states-behind.result _ _ _ _ _
    (ap (λ t. t.letters) c.rest.view_is) c.states-behind.ensures.states c.new-starts.ensures.items c.in_ok-push_starts.ensures
    (c.as_slice.ensures.value ∙ ap (λ t. t.starts) c.rest.view_is) (c.reserve.ensures.items ∙ ap (λ t. t.states) c.rest.view_is)
    c.in_ok-push_bridged_states.ensures))
    (Relates-joined c.args.part.now c.args.separator c.args.rest c.states.ensures.valid c.states-behind.ensures.valid u w)
