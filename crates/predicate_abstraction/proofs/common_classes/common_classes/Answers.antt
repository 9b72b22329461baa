use Rattle.std.proofs.Common.{◌≡◌, ◌+◌, length, sym, subst, arith}
use Rattle.std.proofs.lemmas.Result.{IfOk-weaker}
use Rattle.abstraction.specs.FirstStates.{AreFirsts}
use Rattle.predicate_abstraction.specs.private.Splitting.{AreCommon}
use Rattle.predicate_abstraction.proofs.ClassPairs.{HasPlaces, places_more, common_all}
use Rattle.predicate_abstraction.proofs.common_classes.common_classes.Goals as goal

pub states-preserved : goal.states-preserved
states-preserved c =
    let a = c.args.a.now in
    let b = c.args.b.now in
    subst (λ items. HasPlaces a b items (c.states.state + 1)) (sym c.in_ok-push.ensures.items)
    (places_more a b c.states.pairs.items c.states.state c.place.result c.place.ensures.value c.states.invariant)

pub returns : goal.returns
returns c =
    let a = c.args.a.now in
    let b = c.args.b.now in
    let places = c.states.pairs.items in
    let end : c.states.state ≡ length a = omega arith in
    IfOk-weaker c.first_states.result (λ firsts. AreFirsts c.deref.result.now firsts.items) (λ both. AreCommon a b both.items)
    (λ both are. common_all a b places both.items (subst (HasPlaces a b places) end c.states.invariant) c.requires.a c.requires.b
    (subst (λ xs. AreFirsts xs both.items) c.deref.ensures.value are)) c.first_states.ensures
