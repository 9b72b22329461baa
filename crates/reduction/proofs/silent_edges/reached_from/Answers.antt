use Rattle.std.proofs.Common.{◌<◌, ◌++◌, [], ◌∷◌, ℕ, List, Option, None, length, get_or, sym, ap, subst, ◌∙◌, arith}
use Rattle.std.proofs.lemmas.List.Elements.{All-cons, All-nil}
use Rattle.word_automata.specs.StateSets.{AddsTargets}
use Rattle.word_automata.proofs.ForCallers.{IsPartialClosure, partial_closure_none, partial_closure_more, partial_closure_all}
use Rattle.reduction.proofs.silent_edges.reached_from.Goals as goal

pub reached-init : goal.reached-init
reached-init c =
    let n = c.args.automaton.now in
    let state = c.args.state in
    subst (λ xs. IsPartialClosure n (state ∷ []) xs 0) (sym (c.in_ok-push.ensures.items ∙ ap (λ xs. xs ++ state ∷ []) c.new-reached.ensures.items))
    (partial_closure_none n (state ∷ []) (All-cons (λ q. q < length n.states) state [] c.requires (All-nil (λ q. q < length n.states))))

pub reached-preserved : goal.reached-preserved
reached-preserved c =
    let old = c.reached.reached.items in
    let new = c.add_silent_targets.new.reached.items in
    partial_closure_more c.args.automaton.now c.edges_from.ensures.in_range (c.args.state ∷ []) old new c.reached.next _
    (omega (arith, c.reached-test.true, c.len.ensures)) (ap (λ l. get_or l c.reached.next 0) c.as_slice.ensures.value)
    (subst (λ (xs : List (Option ℕ × ℕ)). AddsTargets xs None old new) c.edges_from.ensures.edges c.in_ok-add_silent_targets.ensures) c.reached.invariant

pub returns : goal.returns
returns c = record {
  states = c.reached.invariant.states;
  closure = partial_closure_all c.args.automaton.now (c.args.state ∷ []) c.reached.reached.items c.reached.next (omega (arith, c.reached-test.false, c.len.ensures)) c.reached.invariant;
}
