use Rattle.std.proofs.Common.{◌≡◌, ◌+◌, ◌↔◌, [], Some, Contains, length, slice_get, refl, subst, sym, arith}
use Rattle.std.proofs.lemmas.List.Elements.{All-contains}
use Rattle.std.proofs.lemmas.Option.{slice_get_read}
use Rattle.boolean_operations.specs.private.Search.{Reached}
use Rattle.boolean_operations.proofs.SearchSteps.{Joined, kept_longer}
use Rattle.boolean_operations.proofs.SearchCalls.{start_joined, begun, reached_nothing, are_found_kept, are_found_more, contains_at}
use Rattle.boolean_operations.proofs.search.begin.Given.{Over}
use Rattle.boolean_operations.proofs.search.begin.Goals.{In_ok-join}
use Rattle.boolean_operations.proofs.search.begin.Goals as goal

pub starts-init : goal.starts-init
starts-init g c =
    let t = g.T.Graph in
    let graph = c.args.graph.now in
    record {
      reached = subst (λ xs. Reached (t.is_state graph) (t.is_start graph) (t.edge graph) xs c.args.groups.now.items [] (length xs)) (sym c.requires.none)
          (subst (λ ys. Reached (t.is_state graph) (t.is_start graph) (t.edge graph) [] ys [] 0) (sym c.requires.no_groups) reached_nothing);
      there = λ i s l at. absurd (omega arith);
    }

start_at : (g : Over) (c : In_ok-join g) → slice_get c.deref-start-items.result.now c.starts.start-index ≡ Some c.start-item.result
start_at g c =
    let starts = c.deref-start-items.result.now in
    slice_get_read starts (length starts) c.starts.start-index c.start-item.result refl (omega (arith, c.starts-test.true)) c.start-item.is

-- the start is found
joined_at : (g : Over) (c : In_ok-join g) → Joined (g.T.Graph.is_state c.args.graph.now) (g.T.Graph.is_start c.args.graph.now) (g.T.Graph.edge c.args.graph.now)
    c.starts.found.states.items c.starts.groups.items [] (length c.starts.found.states.items) c.join.new.found.states.items c.join.new.groups.items c.start-item.result
joined_at g c =
    let start = c.start-item.result in
    let there : Contains c.in_ok-starts.starts.items start =
    subst (λ xs. Contains xs start) c.deref-start-items.ensures.value (contains_at c.deref-start-items.result.now start c.starts.start-index (start_at g c)) in
    start_joined c.starts.invariant.reached start (All-contains (g.T.Graph.is_state c.args.graph.now) c.in_ok-starts.starts.items start c.in_ok-starts.ensures.states there)
    ((c.in_ok-starts.ensures.starts start).0 there) c.in_ok-join.ensures

pub close-requires-clause-within : goal.close-requires-clause-within
close-requires-clause-within g c =
    let y = joined_at g (goal.at.close-requires-clause-within g c).In_ok-join in
    omega (arith, kept_longer c.starts.found.states.items c.join.new.found.states.items y.extends.found_kept, c.len-closed.ensures)

pub close-requires-clause-before : goal.close-requires-clause-before
close-requires-clause-before g c =
    let t = g.T.Graph in
    let graph = c.args.graph.now in
    subst (Reached (t.is_state graph) (t.is_start graph) (t.edge graph) c.join.new.found.states.items c.join.new.groups.items []) (sym c.len-closed.ensures)
    (joined_at g (goal.at.close-requires-clause-before g c).In_ok-join).reached

pub starts-preserved : goal.starts-preserved
starts-preserved g c =
    let w = (goal.at.starts-preserved g c).In_ok-join in
    let starts = c.deref-start-items.result.now in
    let i = c.starts.start-index in
    let y = joined_at g w in
    let z = c.in_ok-close.ensures in
    record {
      reached = z.reached;
      there = are_found_kept z.extends 0 starts (i + 1)
          (are_found_more c.join.new.found.states.items c.join.new.groups.items 0 starts i c.start-item.result (start_at g w)
          (are_found_kept y.extends 0 starts i c.starts.invariant.there) y.there);
    }

pub returns-clause-done : goal.returns-clause-done
returns-clause-done g c =
    let starts = c.deref-start-items.result.now in
    begun starts (subst (λ xs. (s : _) → Contains xs s ↔ g.T.Graph.is_start c.args.graph.now s) (sym c.deref-start-items.ensures.value) c.in_ok-starts.ensures.starts) c.starts.start-index
    (omega (arith, c.starts-test.false)) c.starts.invariant.there
