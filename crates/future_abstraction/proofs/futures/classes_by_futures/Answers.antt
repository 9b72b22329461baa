use Rattle.std.proofs.Common.{suc, length, replicate, sym, subst, ap, ◌∙◌, arith}
use Rattle.std.proofs.lemmas.List.{length-replicate}
use Rattle.std.specs.Cmp.Lexicographic.{same_text}
use Rattle.abstraction.specs.Bounds.{up_to}
use Rattle.abstraction.specs.FirstStates.{AreFirsts}
use Rattle.abstraction.specs.Merging.{AreClasses}
use Rattle.future_abstraction.specs.Futures.{is_related}
use Rattle.minimise.specs.Refinement.{IsSplit}
use Rattle.std.proofs.lemmas.Result.{IfOk-weaker}
use Rattle.future_abstraction.proofs.Bounded.{HasClassesBelow, zeros_below, split_below, stable_below, are_classes, first_classes}
use Rattle.future_abstraction.proofs.futures.classes_by_futures.Goals as goal

pub rounds-init : goal.rounds-init
rounds-init c =
    let m = c.args.automaton.now in
    let none = c.in_ok-none.none.items in
    let split = subst (λ old. IsSplit m old c.in_ok-classes.classes.items) c.deref.ensures.value c.in_ok-classes.ensures in
    let items = c.in_ok-none.ensures.items_if_clones_equal (λ y h. h) ∙ ap (λ n. replicate n 0) c.states.ensures.count in
    let older = c.in_ok-older.ensures.items_if_clones_equal (λ y h. h) ∙ ap (λ n. replicate n 0) c.states-2.ensures.count in
    record {
      below = split_below m c.states.ensures.valid none 0 (zeros_below m none items) c.in_ok-classes.classes.items split;
      count = ap length older ∙ length-replicate (length m.states) 0;
      split = subst (λ xs. IsSplit m xs c.in_ok-classes.classes.items) (items ∙ sym older) split;
    }

pub returns-then-eq : goal.returns-then-eq
returns-then-eq c =
    let m = c.args.automaton.now in
    let classes = c.rounds.classes.items in
    let finer = c.in_ok-finer.finer.items in
    let split = subst (λ old. IsSplit m old finer) c.deref-in-rounds-2.ensures.value c.in_ok-finer.ensures in
    let are = are_classes m c.args.bound classes
    (stable_below m c.states.ensures.valid classes (suc c.rounds.counter) (suc c.args.bound) (omega arith) c.rounds.invariant.below
    (subst (IsSplit m classes) (same_text finer classes c.if-eq.ensures) split)) in
    IfOk-weaker c.first_states.result (λ firsts. AreFirsts c.deref-then-eq.result.now firsts.items)
    (λ firsts. AreClasses (is_related (up_to c.args.bound) m) (length m.states) firsts.items)
    (λ firsts is. first_classes (is_related (up_to c.args.bound) m) (length m.states) classes firsts.items are
    (subst (λ xs. AreFirsts xs firsts.items) c.deref-then-eq.ensures.value is))
    c.first_states.ensures

pub rounds-preserved : goal.rounds-preserved
rounds-preserved c =
    let m = c.args.automaton.now in
    let classes = c.rounds.classes.items in
    let finer = c.in_ok-finer.finer.items in
    let split = subst (λ old. IsSplit m old finer) c.deref-in-rounds-2.ensures.value c.in_ok-finer.ensures in
    record {
      below = subst (λ k. HasClassesBelow m k finer) (omega arith)
          (split_below m c.states.ensures.valid classes (suc c.rounds.counter) c.rounds.invariant.below finer split);
      count = c.rounds.invariant.below.count;
      split = split;
    }

pub returns : goal.returns
returns c =
    let m = c.args.automaton.now in
    let classes = c.rounds.classes.items in
    let are = are_classes m c.args.bound classes (subst (λ k. HasClassesBelow m k classes) (omega arith) c.rounds.invariant.below) in
    IfOk-weaker c.first_states-2.result (λ firsts. AreFirsts c.deref-2.result.now firsts.items)
    (λ firsts. AreClasses (is_related (up_to c.args.bound) m) (length m.states) firsts.items)
    (λ firsts is. first_classes (is_related (up_to c.args.bound) m) (length m.states) classes firsts.items are
    (subst (λ xs. AreFirsts xs firsts.items) c.deref-2.ensures.value is))
    c.first_states-2.ensures
