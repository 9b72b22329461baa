use Rattle.std.proofs.Common.{arith}
use Rattle.predicate_abstraction.proofs.Adding.{sources_none, sources_more, sources_all}
use Rattle.predicate_abstraction.proofs.shared_words.add_sources.Goals as goal

pub edges-init : goal.edges-init
edges-init c = record {
  from = omega arith;
  adds = sources_none c.args.row c.args.letter c.args.edges.now c.requires.order c.args.place c.requires.place c.args.shared.now;
}

pub edges-preserved : goal.edges-preserved
edges-preserved c = record {
  from = (let before = c.edges.invariant.from in omega arith);
  adds = sources_more c.args.row c.args.letter c.args.edges.now c.requires.order c.edges.at c.args.shared.now c.edges.shared c.insert.new.self
      c.edges-test.true c.if-edges-at.true c.edges.invariant.adds c.in_ok-insert.ensures;
}

pub returns-else-edges-at : goal.returns-else-edges-at
returns-else-edges-at c =
    sources_all c.args.row c.args.letter c.args.edges.now c.requires.order c.args.place c.edges.at c.args.shared.now c.edges.shared c.requires.place
    c.edges.invariant.from (λ within. c.if-edges-at.false) c.edges.invariant.adds

pub returns-after-edges : goal.returns-after-edges
returns-after-edges c =
    sources_all c.args.row c.args.letter c.args.edges.now c.requires.order c.args.place c.edges.at c.args.shared.now c.edges.shared c.requires.place
    c.edges.invariant.from (λ within. absurd (let past = c.edges-test.false in omega arith)) c.edges.invariant.adds
