use Rattle.std.proofs.Common.{◌≡◌, ◌<◌, ℕ, length, slice_index, subst, arith}
use Rattle.predicate_abstraction.specs.private.Splitting.{IsSplit}
use Rattle.predicate_abstraction.proofs.Parts.{classes_by_more, classes_by_alone}
use Rattle.predicate_abstraction.proofs.shares.classes_in_turn.Goals as goal

pub returns-then-are_single : goal.returns-then-are_single
returns-then-are_single c =
    classes_by_alone c.args.a.now c.args.predicates.now c.predicates.predicate-index c.predicates.classes.items
    (subst (λ xs. (p : ℕ) → p < length xs → slice_index xs p ≡ p) c.deref.ensures.value (c.are_single.ensures c.if-are_single.true)) c.predicates.invariant

pub predicates-preserved : goal.predicates-preserved
predicates-preserved c =
    let a = c.args.a.now in
    let b = c.predicate-item.result in
    let classes = c.predicates.classes.items in
    let finer = c.in_ok-classes-2.classes.items in
    classes_by_more a c.args.predicates.now c.predicates.predicate-index b classes finer (omega arith) c.predicate-item.is
    (subst (λ m. IsSplit m b classes finer) c.as_dfa-automaton.ensures.same
    (subst (λ cs. IsSplit c.as_dfa-automaton.result.now b cs finer) c.deref-in-predicates.ensures.value c.in_ok-classes-2.ensures))
    c.predicates.invariant
