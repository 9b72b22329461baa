use Rattle.std.proofs.Common.{◌∙◌, arith}
use Rattle.transducers.proofs.JoiningLemmas.{joined_more}
use Rattle.transducers.proofs.joining.join_sections.Goals as goal

pub parts-preserved : goal.parts-preserved
parts-preserved c = record {
  letters = c.in_ok-joined-2.ensures.letters ∙ c.parts.invariant.letters;
  related = joined_more c.args.separator c.args.parts.now c.parts.k c.index-parts-k.result c.parts.joined c.in_ok-joined-2.joined
      c.parts-test.true (omega arith) c.index-parts-k.is c.parts.invariant.related c.in_ok-joined-2.ensures.joined;
}
