use Rattle.std.proofs.Common.{◌≡◌, ◌+◌, suc, Some, length, slice_get, refl, subst, sym, arith}
use Rattle.std.proofs.lemmas.Option.{slice_get_read}
use Rattle.boolean_operations.specs.private.Search.{Done, Extends}
use Rattle.boolean_operations.proofs.SearchSteps.{extends-nothing, extends-trans, kept_longer, done_more}
use Rattle.boolean_operations.proofs.SearchCalls.{bounded_first, before_bounded, bounded_on, source_of, are_taken_kept, are_taken_more, place_of}
use Rattle.boolean_operations.proofs.search.expand.Given.{Over}
use Rattle.boolean_operations.proofs.search.expand.Goals.{After-steps-item}
use Rattle.boolean_operations.proofs.search.expand.Goals as goal

pub steps-init : goal.steps-init
steps-init g c = record {
  reached = c.requires.reached;
  extends = extends-nothing;
  taken = λ i a r l at. absurd (omega arith);
  bounded = bounded_first c.args.pending.now c.args.from c.args.steps.now.items c.requires.before;
  before = λ k p b at. let l = c.requires.before k p b at in omega arith;
}

pub step-requires-clause-within : goal.step-requires-clause-within
step-requires-clause-within g c = omega (arith, c.requires.within, kept_longer c.args.steps.now.items c.steps.steps.items c.steps.invariant.extends.steps_kept)

-- the next step
step_at : (g : Over) (c : After-steps-item g) → slice_get c.args.pending.now c.steps.letter-index ≡ Some c.steps-item.result
step_at g c =
    let pending = c.args.pending.now in
    slice_get_read pending (length pending) c.steps.letter-index c.steps-item.result refl c.steps-test.true c.steps-item.is

pub step-requires-clause-bounded : goal.step-requires-clause-bounded
step-requires-clause-bounded g c =
    let item = c.steps-item.result in
    c.steps.invariant.bounded c.steps.letter-index item.0 item.1 (omega arith) (step_at g (goal.at.step-requires-clause-bounded g c).After-steps-item)

pub step-requires-clause-is_state : goal.step-requires-clause-is_state
step-requires-clause-is_state g c =
    let item = c.steps-item.result in
    (source_of c.requires.pending c.steps.invariant.extends c.steps.letter-index item.0 item.1 (step_at g (goal.at.step-requires-clause-is_state g c).After-steps-item)).0

pub step-requires-clause-source : goal.step-requires-clause-source
step-requires-clause-source g c =
    let item = c.steps-item.result in
    (source_of c.requires.pending c.steps.invariant.extends c.steps.letter-index item.0 item.1 (step_at g (goal.at.step-requires-clause-source g c).After-steps-item)).1

pub steps-preserved : goal.steps-preserved
steps-preserved g c =
    let pending = c.args.pending.now in
    let from = c.args.from in
    let item = c.steps-item.result in
    let i = c.steps.letter-index in
    let at = step_at g (goal.at.steps-preserved g c).After-steps-item in
    let x = c.steps.invariant in
    let y = c.in_ok-last.ensures in
    let steps = c.step.new.steps.items in
    record {
      reached = y.reached;
      extends = extends-trans x.extends y.extends (omega arith);
      taken = are_taken_more c.step.new.found.states.items c.step.new.groups.items steps from pending i item.0 item.1 at (are_taken_kept y.extends from pending i x.taken) y.taken;
      bounded = bounded_on pending from c.requires.in_order steps i item.0 item.1 at y.bounded;
      before = before_bounded steps from item.0 y.bounded;
    }

pub returns-clause-done : goal.returns-clause-done
returns-clause-done g c =
    let t = g.T.Graph in
    let graph = c.args.graph.now in
    let x = c.steps.invariant in
    let one : suc c.args.from ≡ c.args.from + 1 = omega arith in
    subst (Done (t.is_start graph) (t.edge graph) (t.goal graph) c.steps.found.states.items c.steps.groups.items c.steps.steps.items) one
    (done_more c.requires.reached.count c.requires.done c.requires.pending
    (subst (Extends c.args.found.now.states.items c.args.groups.now.items c.args.steps.now.items c.steps.found.states.items c.steps.groups.items c.steps.steps.items) (sym one) x.extends)
    (λ a r there. let p = place_of c.args.pending.now (a, r) there in x.taken p.0 a r (omega (arith, p.1, c.steps-test.false)) p.2))
