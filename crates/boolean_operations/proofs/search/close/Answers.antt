use Rattle.std.proofs.Common.{◌≡◌, length, subst, arith}
use Rattle.boolean_operations.specs.private.Search.{Reached}
use Rattle.boolean_operations.proofs.SearchSteps.{extends-trans, extends-nothing, kept_longer}
use Rattle.boolean_operations.proofs.search.close.Goals as goal

pub states-init : goal.states-init
states-init g c = record {
  within = c.requires.within;
  reached = c.requires.before;
  extends = extends-nothing;
}

pub states-preserved : goal.states-preserved
states-preserved g c =
    let y = c.in_ok-close_state.ensures in
    record {
      within = omega (arith, kept_longer c.states.found.states.items c.close_state.new.found.states.items y.extends.found_kept, c.states-test.true, c.len.ensures);
      reached = y.reached;
      extends = extends-trans c.states.invariant.extends y.extends (omega arith);
    }

pub returns-clause-reached : goal.returns-clause-reached
returns-clause-reached g c =
    let t = g.T.Graph in
    let graph = c.args.graph.now in
    let all : c.states.place ≡ length c.states.found.states.items = omega (arith, c.states.invariant.within, c.states-test.false, c.len.ensures) in
    subst (Reached (t.is_state graph) (t.is_start graph) (t.edge graph) c.states.found.states.items c.states.groups.items c.args.steps.now) all c.states.invariant.reached
