use Rattle.std.proofs.Common.{◌<◌, ◌&&◌, ◌∙◌, ◌∷◌, [], All, None, sym, subst, ap, arith}
use Rattle.std.specs.List.{filter, range_with_len, AllByRecursion}
use Rattle.std.specs.Option.{option_copied}
use Rattle.protocol_model.specs.System.{AllBelow, letter_count}
use Rattle.protocol_model.specs.Patterns.{atoms_match, list_fits}
use Rattle.protocol_model.specs.Words.{raised}
use Rattle.section_patterns.specs.private.Languages.{AcceptsFrom, BeginsWithLetters, IsAdded}
use Rattle.section_patterns.specs.private.Lists.{BeginsWithList, HasPatternOf, part_matches}
use Rattle.section_patterns.proofs.ListLemmas.{raised_chosen_below}
use Rattle.std.proofs.lemmas.Result.{IfOk-weaker}
use Rattle.section_patterns.proofs.SectionLemmas.{any_added, pattern_added}
use Rattle.section_patterns.proofs.sections.add_list.Goals as goal

pub add_atoms-requires-clause-letters : goal.add_atoms-requires-clause-letters
add_atoms-requires-clause-letters c =
    let has = subst (λ o. HasPatternOf (option_copied o) c.args.section.now) c.in-Some.is c.requires.pattern in
    subst (λ n. AllByRecursion (λ atom. AllBelow n atom.letters) c.as_slice-atoms.result.now) (sym c.letter_count-count.ensures)
    (subst (AllByRecursion (λ atom. AllBelow (letter_count c.args.section.now) atom.letters)) (sym c.as_slice-atoms.ensures) has.in_range)

pub add_loop-requires-clause-letters : goal.add_loop-requires-clause-letters
add_loop-requires-clause-letters c =
    subst (All (λ a. a < c.args.builder.now.letters)) (sym (c.as_slice.ensures.value ∙ c.in_ok-letters-in-None.ensures))
    (raised_chosen_below c.args.offset c.letter_count-count.result c.args.builder.now.letters (λ a. part_matches None (a ∷ []))
    (omega (arith, c.letter_count-count.ensures, c.requires.fits)))

pub returns-in-Some : goal.returns-in-Some
returns-in-Some c =
    let old = c.args.builder.now in
    let new = c.add_atoms.new.builder in
    let L = AcceptsFrom old c.args.next in
    IfOk-weaker c.add_atoms.result
    (λ state. IsAdded old new state (BeginsWithList (atoms_match c.as_slice-atoms.result.now) c.args.offset L))
    (λ state. IsAdded old new state (BeginsWithList (λ list. list_fits c.args.section.now list && part_matches (option_copied c.args.pattern) list) c.args.offset L))
    (λ state added. pattern_added c.args.section.now (option_copied c.args.pattern) c.args.offset L old new state c.in-Some.pattern.now
    c.as_slice-atoms.result.now c.requires.kind (ap option_copied c.in-Some.is) c.requires.pattern c.as_slice-atoms.ensures added)
    c.add_atoms.ensures

pub returns-in_ok-letters-in-None : goal.returns-in_ok-letters-in-None
returns-in_ok-letters-in-None c =
    let old = c.args.builder.now in
    let new = c.add_loop.new.builder in
    let L = AcceptsFrom old c.args.next in
    IfOk-weaker c.add_loop.result
    (λ state. IsAdded old new state (BeginsWithLetters c.as_slice.result.now L))
    (λ state. IsAdded old new state (BeginsWithList (λ list. list_fits c.args.section.now list && part_matches (option_copied c.args.pattern) list) c.args.offset L))
    (λ state added. any_added c.args.section.now (option_copied c.args.pattern) c.args.offset L old new state c.as_slice.result.now c.requires.kind
    (ap option_copied c.in-None.is)
    (c.as_slice.ensures.value ∙ c.in_ok-letters-in-None.ensures
    ∙ ap (λ n. raised c.args.offset (filter (λ a. part_matches None (a ∷ [])) (range_with_len 0 n))) c.letter_count-count.ensures) added)
    c.add_loop.ensures
