use Rattle.std.proofs.Common.{◌≡◌, ◌+◌, suc, Some, None, length, reverse, subst, sym, arith}
use Rattle.std.proofs.lemmas.List.{reverse-reverse}
use Rattle.sequence.specs.WordOrder.{IsLeastWord}
use Rattle.boolean_operations.specs.private.Search.{Reached, Done, BeginsAt, AreBefore, AreInOrder, AreRising, AreSteps, AreStepsOf, IsGathered, IsFound, Spells}
use Rattle.boolean_operations.proofs.SearchWords.{nothing_found, least_found}
use Rattle.boolean_operations.proofs.SearchSteps.{begins_kept}
use Rattle.boolean_operations.proofs.SearchCalls.{steps_sorted}
use Rattle.boolean_operations.proofs.search.search.Goals as goal

pub groups-init : goal.groups-init
groups-init g c =
    let t = g.T.Graph in
    let graph = c.args.graph.now in
    let none = sym c.requires.no_steps in
    record {
      reached = subst (λ k. Reached (t.is_state graph) (t.is_start graph) (t.edge graph) c.begin.new.found.states.items c.begin.new.groups.items k (length c.begin.new.found.states.items)) none
          c.in_ok-begin.ensures.reached;
      done = subst (λ k. Done (t.is_start graph) (t.edge graph) (t.goal graph) c.begin.new.found.states.items c.begin.new.groups.items k 0) none c.in_ok-begin.ensures.done;
      begins = record { within = omega arith; before = λ i g l at. absurd (omega arith); after = λ i g l at. omega arith };
      before = subst (λ k. AreBefore k 0) none (λ k p b at. cc);
    }

pub gather-requires-clause-count : goal.gather-requires-clause-count
gather-requires-clause-count g c =
    subst (λ groups. length groups ≡ length c.groups.found.states.items) (sym c.deref.ensures.value) c.groups.invariant.reached.count

pub gather-requires-clause-states : goal.gather-requires-clause-states
gather-requires-clause-states g c = c.groups.invariant.reached.states

pub gather-requires-clause-rising : goal.gather-requires-clause-rising
gather-requires-clause-rising g c = subst AreRising (sym c.deref.ensures.value) c.groups.invariant.reached.rising

pub gather-requires-clause-begins : goal.gather-requires-clause-begins
gather-requires-clause-begins g c = subst (λ groups. BeginsAt groups c.groups.place c.groups.group) (sym c.deref.ensures.value) c.groups.invariant.begins

pub word_of-requires-clause-are_steps : goal.word_of-requires-clause-are_steps
word_of-requires-clause-are_steps g c = subst AreSteps (sym c.deref-in_default.ensures.value) c.groups.invariant.reached.are_steps

pub expand-requires-clause-reached : goal.expand-requires-clause-reached
expand-requires-clause-reached g c = c.groups.invariant.reached

pub expand-requires-clause-done : goal.expand-requires-clause-done
expand-requires-clause-done g c = c.groups.invariant.done

pub expand-requires-clause-before : goal.expand-requires-clause-before
expand-requires-clause-before g c = c.groups.invariant.before

pub expand-requires-clause-in_order : goal.expand-requires-clause-in_order
expand-requires-clause-in_order g c = subst AreInOrder (sym c.deref-in-groups.ensures.value) c.in_ok-sort.ensures.in_order

pub expand-requires-clause-pending : goal.expand-requires-clause-pending
expand-requires-clause-pending g c =
    let t = g.T.Graph in
    let graph = c.args.graph.now in
    let found = c.groups.found.states.items in
    let groups = c.groups.groups.items in
    let group = c.groups.group in
    let gathered : IsGathered (t.is_state graph) (t.edge graph) (t.goal graph) found groups group c.gather.new.pending.items (Some c.in-Some.end) =
    subst (λ ys. IsGathered (t.is_state graph) (t.edge graph) (t.goal graph) found ys group c.gather.new.pending.items (Some c.in-Some.end)) c.deref.ensures.value
    (subst (IsGathered (t.is_state graph) (t.edge graph) (t.goal graph) found c.deref.result.now group c.gather.new.pending.items) c.in-Some.is c.in_ok-end.ensures) in
    subst (AreStepsOf (t.is_state graph) (t.edge graph) (t.goal graph) found groups group) (sym c.deref-in-groups.ensures.value)
    (steps_sorted gathered.1 c.sort.new.pending.items c.in_ok-sort.ensures.permutation)

pub groups-preserved : goal.groups-preserved
groups-preserved g c =
    let t = g.T.Graph in
    let graph = c.args.graph.now in
    let found = c.groups.found.states.items in
    let groups = c.groups.groups.items in
    let group = c.groups.group in
    let gathered : IsGathered (t.is_state graph) (t.edge graph) (t.goal graph) found groups group c.gather.new.pending.items (Some c.in-Some.end) =
    subst (λ ys. IsGathered (t.is_state graph) (t.edge graph) (t.goal graph) found ys group c.gather.new.pending.items (Some c.in-Some.end)) c.deref.ensures.value
    (subst (IsGathered (t.is_state graph) (t.edge graph) (t.goal graph) found c.deref.result.now group c.gather.new.pending.items) c.in-Some.is c.in_ok-end.ensures) in
    let y = c.in_ok-expand.ensures in
    record {
      reached = y.reached;
      done = y.done;
      begins = begins_kept y.extends (subst (BeginsAt groups c.in-Some.end) (let e : suc group ≡ group + 1 = omega arith in e) gathered.0);
      before = y.before;
    }

pub returns-in_default : goal.returns-in_default
returns-in_default g c =
    let t = g.T.Graph in
    let graph = c.args.graph.now in
    let found = c.groups.found.states.items in
    let groups = c.groups.groups.items in
    let group = c.groups.group in
    let gathered : IsGathered (t.is_state graph) (t.edge graph) (t.goal graph) found groups group c.gather.new.pending.items None =
    subst (λ ys. IsGathered (t.is_state graph) (t.edge graph) (t.goal graph) found ys group c.gather.new.pending.items None) c.deref.ensures.value
    (subst (IsGathered (t.is_state graph) (t.edge graph) (t.goal graph) found c.deref.result.now group c.gather.new.pending.items) c.in_default.is c.in_ok-end.ensures) in
    let word = c.in_ok-word_of.field-0.items in
    let spells = subst (λ k. Spells k (reverse word) group) c.deref-in_default.ensures.value c.in_ok-word_of.ensures in
    subst (IsLeastWord (IsFound (t.is_start graph) (t.edge graph) (t.goal graph))) (reverse-reverse word)
    (least_found c.groups.invariant.reached c.groups.invariant.done gathered.0 gathered.1 gathered.2 (reverse word) spells)

pub returns : goal.returns
returns g c =
    nothing_found c.groups.invariant.reached c.groups.invariant.done (omega (arith, c.groups-test.false, c.len.ensures, c.groups.steps.ok.0))
