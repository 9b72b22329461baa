use Rattle.image_preimage.proofs.PairLemmas.{Follows-leads}
use Rattle.image_preimage.proofs.pairs.follow.Goals as goal

pub returns-in_ok-edge : goal.returns-in_ok-edge
returns-in_ok-edge c = record {
  follows = Follows-leads c.args.t.now c.args.a.now c.args.found.now.states.items c.args.builder.now c.args.from c.args.pair c.args.edge
      c.number.new.found.states.items c.number.new.builder c.edge.new.self c.in-Some.right c.in_ok-to.to c.requires.there c.requires.is_edge
      c.in-Some.ensures.value c.in_ok-to.ensures c.in_ok-edge.ensures.ok;
  gap = c.in-Some.ensures.gap;
}
