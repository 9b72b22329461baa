use Rattle.std.proofs.Common.{◌≡◌, ◌+◌, IfSome, nat_eq, length, sym, subst, arith}
use Rattle.std.specs.HashMap.{get}
use Rattle.future_abstraction.specs.private.Numbers.{IsNumbered}
use Rattle.future_abstraction.proofs.Numbering.{HasNumbers, numbers_more, numbers_all}
use Rattle.future_abstraction.proofs.rounds.split_others.Goals as goal

pub states-preserved : goal.states-preserved
states-preserved c =
    let m = c.args.automaton.now in
    let classes = c.args.classes.now in
    let kept = c.args.kept.now in
    let known = get nat_eq c.states.firsts in
    let more = get nat_eq c.number_of.new.firsts in
    let next = subst (λ o. IfSome o (IsNumbered m classes kept known more c.states.state)) c.in-Some.is c.in_ok-found.ensures in
    subst (λ items. HasNumbers m classes kept more items (c.states.state + 1)) (sym c.in_ok-push.ensures.items)
    (numbers_more m classes kept known more c.states.finer.items c.states.state c.in-Some.number c.states.invariant next)

pub returns : goal.returns
returns c =
    let m = c.args.automaton.now in
    let kept = c.args.kept.now in
    let known = get nat_eq c.states.firsts in
    let end : c.states.state ≡ length m.states = (let a = c.states-state-end.ensures.count in omega arith) in
    numbers_all m c.args.classes.now c.requires.count kept known c.states.finer.items
    (subst (HasNumbers m c.args.classes.now kept known c.states.finer.items) end c.states.invariant)
