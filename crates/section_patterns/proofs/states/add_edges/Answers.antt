use Rattle.std.proofs.Common.{subst, sym, arith}
use Rattle.std.proofs.lemmas.List.{take_more, take_all}
use Rattle.section_patterns.specs.private.Languages.{AddsLetterEdges}
use Rattle.section_patterns.proofs.StateLemmas.{letter_edges_none, letter_edges_more}
use Rattle.section_patterns.proofs.states.add_edges.Goals as goal

pub edge-requires : goal.edge-requires
edge-requires c = record {
  from_state = omega (arith, c.letters.invariant.same_size);
  in_alphabet = omega (arith, c.letters.invariant.same_letters, c.requires.letters c.letters.letter-index 0 c.letters-test.true);
  to_state = omega (arith, c.letters.invariant.same_size);
}

pub letters-init : goal.letters-init
letters-init c = letter_edges_none c.args.builder.now c.args.from c.args.to

pub letters-preserved : goal.letters-preserved
letters-preserved c =
    subst (λ letters. AddsLetterEdges c.args.builder.now c.edge.new.self c.args.from letters c.args.to)
    (sym (take_more c.args.letters.now c.letters.letter-index 0 c.letters-test.true))
    (letter_edges_more c.args.builder.now c.letters.builder c.edge.new.self c.args.from _ _ c.args.to c.letters.invariant c.in_ok-edge.ensures.ok)

pub returns : goal.returns
returns c =
    subst (λ letters. AddsLetterEdges c.args.builder.now c.letters.builder c.args.from letters c.args.to)
    (take_all c.letters.letter-index c.args.letters.now c.letters-test.false) c.letters.invariant
