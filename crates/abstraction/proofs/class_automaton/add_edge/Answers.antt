use Rattle.std.proofs.Common.{rules, ◌≡◌, ◌∙◌, ◌++◌, ◌∷◌, [], true, Some, Contains, slice_get, ap, subst}
use Rattle.std.specs.Prelude.{IfSome}
use Rattle.std.proofs.lemmas.Result.{on_ok_weaker}
use Rattle.std.proofs.lemmas.List.Elements.{Contains-get_or}
use Rattle.std.proofs.lemmas.Option.{get_or_from_slice_get, slice_get_within}
use Rattle.abstraction.specs.declared.class_automaton.ClassEdge.{ClassEdge}
use Rattle.abstraction.specs.contracts.class_automaton.ClassEdgePartialEq.TheImpl.{eq-value}
use Rattle.abstraction.proofs.ClassMoves.{once_seen, once_added}
use Rattle.abstraction.proofs.class_automaton.add_edge.Goals as goal

same : (x y : ClassEdge) → eq-value.it x y ≡ true → x ≡ y
same x y e = search rules

pub look_up-requires : goal.look_up-requires
look_up-requires c = same

pub returns-in-Some : goal.returns-in-Some
returns-in-Some c =
    let seen = c.args.seen.now.states.items in
    let step = c.args.step in
    let place = c.in-Some._known in
    let at = subst (λ o. IfSome o (λ place. slice_get seen place ≡ Some step)) c.in-Some.is c.in_ok-_known.ensures.place in
    once_seen seen c.look_up.new.self.states.items step c.look_up.ensures.same
    (subst (Contains seen) (get_or_from_slice_get seen place step step at) (Contains-get_or seen place step (slice_get_within seen place step at)))
    c.args.builder.now

pub returns : goal.returns
returns c =
    let step = c.args.step in
    on_ok_weaker c.edge.result
    (once_added c.args.seen.now.states.items c.push.new.self.states.items step (c.in_ok-push.ensures ∙ ap (λ xs. xs ++ step ∷ []) c.look_up.ensures.same)
    c.args.builder.now c.edge.new.self) c.edge.ensures.ok
