use Rattle.std.proofs.Common.{◌<◌, length, subst, sym, ◌∙◌, get_or}
use Rattle.std.proofs.lemmas.List.{get_or_read}
use Rattle.lines.specs.Reading.{HasEffect}
use Rattle.certificate.specs.Stages.{with_edge}
use Rattle.certificate.specs.private.Kept.{IsKept}
use Rattle.certificate.proofs.Taking.{adds_more, adds_no_more, adds_all}
use Rattle.certificate.proofs.reading.add_edges.Goals as goal

pub indices-preserved : goal.indices-preserved
indices-preserved c =
    let s = c.args.alphabet.now in
    let within = subst (λ letters. get_or c.args.indices.now c.indices.index-index 0 < length letters.items) (sym c.indices.invariant.1)
    (c.requires c.indices.index-index 0 c.indices-test.true) in
    let letter = sym (get_or_read c.indices.read.letters.items _ c.index-letter.result.now within c.index-letter.ensures 0) in (
      adds_more s c.args.read.now c.indices.read c.add_edge.new.read c.args.from c.args.to c.args.indices.now c.indices.index-index
          c.indices-test.true c.indices.invariant.0 c.index-letter.result.now letter
          (λ t kept. subst (HasEffect (IsKept s) (with_edge s t c.args.from c.index-letter.result.now c.args.to) t c.add_edge.new.read)
          c.in-More.is (c.in_ok-other.ensures.kept t kept)),
      c.add_edge.ensures.letters ∙ c.indices.invariant.1,
    )

pub returns-in_default : goal.returns-in_default
returns-in_default c =
    let within = subst (λ letters. get_or c.args.indices.now c.indices.index-index 0 < length letters.items) (sym c.indices.invariant.1)
    (c.requires c.indices.index-index 0 c.indices-test.true) in
    let letter = sym (get_or_read c.indices.read.letters.items _ c.index-letter.result.now within c.index-letter.ensures 0) in
    adds_no_more c.args.alphabet.now c.args.read.now c.indices.read c.add_edge.new.read c.args.from c.args.to c.args.indices.now
    c.indices.index-index c.indices-test.true c.indices.invariant.0 c.index-letter.result.now letter c.in_ok-other.other c.in_default.not-More
    c.in_ok-other.ensures.kept

pub returns : goal.returns
returns c = adds_all c.args.alphabet.now c.args.read.now c.indices.read c.args.from c.args.to c.args.indices.now c.indices.index-index c.indices-test.false
    c.indices.invariant.0
