use Rattle.std.proofs.Common.{◌≡◌, ◌+◌, length, subst, sym, arith}
use Rattle.atoms.specs.private.Places.{AreUsedBelow}
use Rattle.atoms.proofs.UsedStates.{used_none, used_skip, used_more}
use Rattle.atoms.proofs.preimages.used_states.Goals as goal

pub states-init : goal.states-init
states-init c = subst (AreUsedBelow c.args.automaton.now 0) (sym c.new-used.ensures.items) (used_none c.args.automaton.now)

pub states-preserved-then-not-is_used : goal.states-preserved-then-not-is_used
states-preserved-then-not-is_used c =
    used_skip c.args.automaton.now c.states.state c.states.used.items (c.is_used.ensures c.if-not-is_used.true) c.states.invariant

pub states-preserved : goal.states-preserved
states-preserved c =
    subst (AreUsedBelow c.args.automaton.now (c.states.state + 1)) (sym c.in_ok-push.ensures.items)
    (used_more c.args.automaton.now c.states.state c.states.used.items (let t = c.states-test.true in let e = c.states-state-end.ensures.count in omega arith) c.states.invariant)

pub returns : goal.returns
returns c =
    let end : c.states.state ≡ length c.args.automaton.now.states = (let t = c.states-test.false in let e = c.states-state-end.ensures.count in omega arith) in
    subst (λ k. AreUsedBelow c.args.automaton.now k c.states.used.items) end c.states.invariant
