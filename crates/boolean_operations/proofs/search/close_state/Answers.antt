use Rattle.std.proofs.Common.{[], None, length, refl, sym, subst, arith}
use Rattle.std.proofs.lemmas.Option.{slice_get_read}
use Rattle.boolean_operations.specs.private.Search.{Gathers}
use Rattle.boolean_operations.proofs.SearchSteps.{extends-trans}
use Rattle.boolean_operations.proofs.SearchCalls.{target_joined, targets_found, are_found_kept, are_found_more}
use Rattle.boolean_operations.proofs.search.close_state.Goals as goal

pub targets-preserved : goal.targets-preserved
targets-preserved g c =
    let found = c.args.found.now.states.items in
    let t = g.T.Graph in
    let targets = c.deref-target-items.result.now in
    let i = c.targets.target-index in
    let at = slice_get_read found (length found) c.args.place c.index.result.now refl c.requires.within c.index.ensures in
    let there = slice_get_read targets (length targets) i c.target-item.result refl (omega (arith, c.targets-test.true)) c.target-item.is in
    let x = c.targets.invariant in
    let y = target_joined x.reached c.requires.within x.extends c.index.result.now at targets
    (subst (Gathers (t.is_state c.args.graph.now) (t.edge c.args.graph.now c.index.result.now None) []) (sym c.deref-target-items.ensures.value) c.in_ok-targets.ensures)
    i c.target-item.result there c.in_ok-join.ensures in
    record {
      reached = y.reached;
      extends = extends-trans x.extends y.extends (omega arith);
      there = are_found_more c.join.new.found.states.items c.join.new.groups.items (length c.args.steps.now) targets i c.target-item.result there
          (are_found_kept y.extends (length c.args.steps.now) targets i x.there) y.there;
    }

pub returns-clause-reached : goal.returns-clause-reached
returns-clause-reached g c =
    let found = c.args.found.now.states.items in
    let t = g.T.Graph in
    let at = slice_get_read found (length found) c.args.place c.index.result.now refl c.requires.within c.index.ensures in
    let x = c.targets.invariant in
    targets_found x.reached c.requires.within x.extends c.index.result.now at c.deref-target-items.result.now
    (subst (Gathers (t.is_state c.args.graph.now) (t.edge c.args.graph.now c.index.result.now None) []) (sym c.deref-target-items.ensures.value) c.in_ok-targets.ensures)
    c.targets.target-index (omega (arith, c.targets-test.false)) x.there
