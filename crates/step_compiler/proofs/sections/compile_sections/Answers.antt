use Rattle.std.proofs.Common.{sym, ◌∙◌, ◌+◌, arith, refl, subst}
use Rattle.std.proofs.lemmas.List.{take_all}
use Rattle.std.proofs.lemmas.Option.{slice_get_read}
use Rattle.step_compiler.specs.Sections.{AreSectionTransducers}
use Rattle.step_compiler.proofs.RuleLemmas.{move_is_of, letters_more, letters_within, sections_pushed}
use Rattle.step_compiler.proofs.sections.compile_sections.Goals as goal

pub compile_section-requires-clause-valid : goal.compile_section-requires-clause-valid
compile_section-requires-clause-valid c m e =
    move_is_of c.args.sections.now c.index-sections-number.result c.args.moves.now c.sections.number m c.requires.valid
    (slice_get_read c.args.sections.now _ c.sections.number c.index-sections-number.result refl (omega arith) c.index-sections-number.is) e

pub compile_section-requires-clause-fits : goal.compile_section-requires-clause-fits
compile_section-requires-clause-fits c = omega (
  arith,
  letters_more c.args.sections.now c.sections.number c.index-sections-number.result (omega arith) c.index-sections-number.is,
  letters_within c.args.sections.now (c.sections.number + 1),
  c.sections.invariant.behind,
  c.requires.fits,
)

pub overflow_add-offset : goal.overflow_add-offset
overflow_add-offset c = omega (
  arith,
  letters_more c.args.sections.now c.sections.number c.index-sections-number.result (omega arith) c.index-sections-number.is,
  letters_within c.args.sections.now (c.sections.number + 1),
  c.sections.invariant.behind,
  c.letter_count-offset.ensures,
  c.requires.fits,
  c.ranges.letters.fits,
)

pub sections-preserved : goal.sections-preserved
sections-preserved c = record {
  behind = (λ i. c.sections.invariant.behind i + c.letter_count-offset.ensures i)
      ∙ sym (letters_more c.args.sections.now c.sections.number c.index-sections-number.result (omega arith) c.index-sections-number.is);
  compiled = sections_pushed c.args.moves.now c.args.letters c.args.sections.now c.sections.number c.sections.offset
      c.index-sections-number.result c.sections.parts.items c.push.new.self.items c.in_ok-part.part (omega arith)
      c.index-sections-number.is c.sections.invariant.behind c.sections.invariant.compiled c.in_ok-part.ensures c.in_ok-push.ensures.items;
}

pub returns : goal.returns
returns c =
    subst (λ sections. AreSectionTransducers c.args.moves.now c.args.letters 0 0 sections c.sections.parts.items)
    (take_all c.sections.number c.args.sections.now (omega (arith, c.sections-test.false))) c.sections.invariant.compiled
