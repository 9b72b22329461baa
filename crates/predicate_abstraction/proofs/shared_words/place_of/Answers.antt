use Rattle.std.proofs.Common.{◌<◌, below_more, get_or, arith}
use Rattle.predicate_abstraction.proofs.shared_words.place_of.Goals as goal

pub edges-preserved : goal.edges-preserved
edges-preserved c = below_more (λ k. (get_or c.args.edges.now k (0, 0)).0 < c.args.letter) c.edges.at c.edges.invariant (omega arith)

pub returns-else-edges-at : goal.returns-else-edges-at
returns-else-edges-at c = record {
  less = c.edges.invariant;
  rest = λ k from within. let rises = c.requires.order c.edges.at k (0, 0) from within in let here = c.if-edges-at.false in omega arith;
}

pub returns-after-edges : goal.returns-after-edges
returns-after-edges c = record {
  less = c.edges.invariant;
  rest = λ k from within. absurd (let past = c.edges-test.false in omega arith);
}
