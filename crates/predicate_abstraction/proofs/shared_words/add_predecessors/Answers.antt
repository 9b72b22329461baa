use Rattle.std.proofs.Common.{arith}
use Rattle.predicate_abstraction.proofs.Adding.{predecessors_more}
use Rattle.predicate_abstraction.proofs.shared_words.add_predecessors.Goals as goal

pub place_of-from-requires-clause-less : goal.place_of-from-requires-clause-less
place_of-from-requires-clause-less c = λ k below. c.edges.invariant.less k c.edges.letter-index below (omega arith) (omega arith)

pub add_sources-requires-clause-row : goal.add_sources-requires-clause-row
add_sources-requires-clause-row c =
    let within = c.requires.rows c.edges.letter-index (0, 0) (omega arith) in
    let same = c.edges.invariant.adds.same_rows in
    omega arith

pub add_sources-requires-clause-columns : goal.add_sources-requires-clause-columns
add_sources-requires-clause-columns c = λ k d there.
    let within = c.requires.columns k d there in
    let same = c.edges.invariant.adds.same_columns in
    omega arith

pub edges-preserved : goal.edges-preserved
edges-preserved c = record {
  adds = predecessors_more c.args.into_a.now c.args.into_b.now c.edges.letter-index (omega arith) c.args.shared.now c.edges.shared c.add_sources.new.shared
      c.edges.invariant.adds c.in_ok-add_sources.ensures;
  less = λ k j below from within.
      let first = c.place_of-from.ensures.less k below in
      let rises = c.requires.order_a c.edges.letter-index j (0, 0) (omega arith) within in
      omega arith;
}
