use Rattle.std.proofs.Common.{◌<◌, ◌&&◌, ◌∙◌, ◌∷◌, [], All, sym, subst, ap, arith}
use Rattle.std.specs.List.{filter, range_with_len}
use Rattle.std.specs.Option.{option_copied}
use Rattle.protocol_model.specs.Patterns.{list_fits}
use Rattle.protocol_model.specs.Words.{raised}
use Rattle.section_patterns.specs.private.Languages.{AcceptsFrom, BeginsWithLetter, IsAdded}
use Rattle.section_patterns.specs.private.Lists.{BeginsWithList, part_matches}
use Rattle.section_patterns.proofs.ListLemmas.{raised_chosen_below}
use Rattle.std.proofs.lemmas.Result.{IfOk-weaker}
use Rattle.section_patterns.proofs.SectionLemmas.{cell_added, few_atoms}
use Rattle.section_patterns.proofs.sections.add_cell.Goals as goal

pub single_letters-requires-clause-limit : goal.single_letters-requires-clause-limit
single_letters-requires-clause-limit c = few_atoms (option_copied c.args.pattern) c.args.section.now c.requires.pattern

pub add_step-requires-clause-letters : goal.add_step-requires-clause-letters
add_step-requires-clause-letters c =
    subst (All (λ a. a < c.args.builder.now.letters)) (sym (c.as_slice.ensures.value ∙ c.in_ok-letters.ensures))
    (raised_chosen_below c.args.offset c.letter_count-count.result c.args.builder.now.letters (λ a. part_matches (option_copied c.args.pattern) (a ∷ []))
    (omega (arith, c.letter_count-count.ensures, c.requires.fits)))

pub returns : goal.returns
returns c =
    let old = c.args.builder.now in
    let new = c.add_step.new.builder in
    let L = AcceptsFrom old c.args.next in
    IfOk-weaker c.add_step.result
    (λ state. IsAdded old new state (BeginsWithLetter c.as_slice.result.now L))
    (λ state. IsAdded old new state (BeginsWithList (λ list. list_fits c.args.section.now list && part_matches (option_copied c.args.pattern) list) c.args.offset L))
    (λ state added. cell_added c.args.section.now (option_copied c.args.pattern) c.args.offset L old new state c.as_slice.result.now c.requires.kind
    (c.as_slice.ensures.value ∙ c.in_ok-letters.ensures
    ∙ ap (λ n. raised c.args.offset (filter (λ a. part_matches (option_copied c.args.pattern) (a ∷ [])) (range_with_len 0 n))) c.letter_count-count.ensures) added)
    c.add_step.ensures
