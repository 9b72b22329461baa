use Rattle.std.proofs.Common.{◌≡◌, ◌+◌, ◌↔◌, [], ◌∷◌, ℕ, List, Option, IfSome, IsTrue, Vec, Global, length, sym, subst, arith}
use Rattle.word_automata.specs.StateSets.{IsClosure}
use Rattle.reduction.specs.private.SilentMoves.{AcceptsOne, IsFlagged}
use Rattle.reduction.proofs.SilentMoves.{flagged_none, flagged_more}
use Rattle.reduction.proofs.silent_edges.flagged_states.Goals as goal

pub states-init : goal.states-init
states-init c = flagged_none c.args.automaton.now c.new-builder.result c.letters.result c.new-builder.ensures c.letters.ensures

pub states-preserved : goal.states-preserved
states-preserved c =
    let n = c.args.automaton.now in
    let state = c.states.state in
    let reached = c.in-Some.reached.items in
    let closure = subst (λ (o : Option (Vec ℕ Global)). IfSome o (λ r. IsClosure n (state ∷ []) r.items)) c.in-Some.is c.in_ok-reached.ensures.closure in
    subst (λ m. IsFlagged n m (state + 1)) (sym c.in_ok-state.ensures.ok)
    (flagged_more n c.states.builder state c.accepts_one.result reached c.states.invariant closure
    (subst (λ (xs : List ℕ). IsTrue c.accepts_one.result ↔ AcceptsOne n xs) c.deref.ensures.value c.accepts_one.ensures))

pub returns : goal.returns
returns c =
    let n = c.args.automaton.now in
    let all : c.states.state ≡ length n.states = (let e = c.states-state-end.ensures.count in let x = c.states-test.false in let y = c.states.auto.state-end in omega arith) in
    subst (IsFlagged n c.states.builder) all c.states.invariant
