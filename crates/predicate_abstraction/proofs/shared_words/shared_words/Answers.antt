use Rattle.std.proofs.Common.{◌<◌, length, arith}
use Rattle.std.proofs.lemmas.Option.{get_or_from_slice_get}
use Rattle.predicate_abstraction.specs.private.SharedWords.{AreEdgesInto}
use Rattle.predicate_abstraction.proofs.Sharing.{list_at, shares_more, shares_all, sources_within}
use Rattle.predicate_abstraction.proofs.shared_words.shared_words.Goals.{After-deref-in-pairs}
use Rattle.predicate_abstraction.proofs.shared_words.shared_words.Goals as goal

-- the edges are those into the states of the pair
edges_of_first : (c : After-deref-in-pairs) → AreEdgesInto c.args.a.now c.pair-p.result.0 c.deref.result.now
edges_of_first c =
    let within : c.pair-p.result.0 < length c.args.a.now.states = (let r = c.pair-p.ensures.row in let e = c.pairs.invariant.rows in omega arith) in
    list_at c.args.a.now c.args.into_a.now (length c.args.a.now.states) c.requires.a c.pair-p.result.0
    c.index-into_a-p.result c.deref.result.now within c.index-into_a-p.is c.deref.ensures.value

edges_of_second : (c : After-deref-in-pairs) → AreEdgesInto c.args.b.now c.pair-p.result.1 c.deref-in-pairs.result.now
edges_of_second c =
    let within : c.pair-p.result.1 < length c.args.b.now.states = (let r = c.pair-p.ensures.column in let e = c.pairs.invariant.columns in omega arith) in
    list_at c.args.b.now c.args.into_b.now (length c.args.b.now.states) c.requires.b c.pair-p.result.1
    c.index-into_b-s.result c.deref-in-pairs.result.now within c.index-into_b-s.is c.deref-in-pairs.ensures.value

pub add_predecessors-requires-clause-rows : goal.add_predecessors-requires-clause-rows
add_predecessors-requires-clause-rows c =
    sources_within c.args.a.now c.pairs.shared.rows c.pairs.invariant.rows c.pair-p.result.0 c.deref.result.now
    (edges_of_first (goal.at.add_predecessors-requires-clause-rows c).After-deref-in-pairs)

pub add_predecessors-requires-clause-columns : goal.add_predecessors-requires-clause-columns
add_predecessors-requires-clause-columns c =
    sources_within c.args.b.now c.pairs.shared.columns c.pairs.invariant.columns c.pair-p.result.1 c.deref-in-pairs.result.now
    (edges_of_second (goal.at.add_predecessors-requires-clause-columns c).After-deref-in-pairs)

pub add_predecessors-requires-clause-order_a : goal.add_predecessors-requires-clause-order_a
add_predecessors-requires-clause-order_a c = (edges_of_first (goal.at.add_predecessors-requires-clause-order_a c).After-deref-in-pairs).ordered

pub add_predecessors-requires-clause-order_b : goal.add_predecessors-requires-clause-order_b
add_predecessors-requires-clause-order_b c = (edges_of_second (goal.at.add_predecessors-requires-clause-order_b c).After-deref-in-pairs).ordered

pub pairs-preserved : goal.pairs-preserved
pairs-preserved c =
    let old = c.pairs.shared in
    let at = (goal.at.pairs-preserved c).After-deref-in-pairs in
    shares_more c.args.a.now c.args.b.now c.requires.a.valid c.requires.b.valid old c.add_predecessors.new.shared c.pairs.next c.pair-p.result
    c.deref.result.now c.deref-in-pairs.result.now (edges_of_first at) (edges_of_second at)
    (let len = c.len.ensures in omega arith) (get_or_from_slice_get old.pairs c.pairs.next c.pair-p.result (0, 0) c.pair-p.ensures.pair)
    c.in_ok-add_predecessors.ensures c.pairs.invariant

pub returns : goal.returns
returns c = shares_all c.args.a.now c.args.b.now c.pairs.shared c.pairs.next (let len = c.len.ensures in omega arith) c.pairs.invariant
