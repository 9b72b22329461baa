use Rattle.std.proofs.Common.{◌≡◌, ◌<◌, ◌≤◌, ◌+◌, ◌^◌, ◌++◌, ◌∷◌, [], All, length, subst, sym, ap, ◌∙◌, arith}
use Rattle.std.proofs.lemmas.List.{append-nil}
use Rattle.protocol_model.specs.Words.{raised, separator_of}
use Rattle.configuration_words.proofs.WordLemmas.{fitting_below}
use Rattle.configuration_words.proofs.EncodingLemmas.{IsEncoded, lead, lead_none, lead_some, list_within, counted_on, list_fitting, encoded_none, encoded_next, encoded_all}
use Rattle.configuration_words.proofs.encoding.encode.Goals as goal
use Rattle.configuration_words.proofs.encoding.encode.Goals.{then-index-gt0+in_ok-push, else-index-gt0}

pub sections-preserved : goal.sections-preserved
sections-preserved c =
    let s = c.args.system.now in
    let index = c.sections.index in
    let sections = c.as_slice-section-items.ensures ∙ ap (λ d. d.sections) c.system.view_is in
    let begun : c.if-index-gt0.word.items ≡ c.sections.word.items ++ lead (separator_of s) index =
    elim c.if-index-gt0.branch [
      | then-index-gt0+in_ok-push w ↦
          ap (λ v. v.items) w.word-is ∙ w.in_ok-push.ensures.items
          ∙ ap (λ a. c.sections.word.items ++ a ∷ []) c.separator-separator.ensures.separator
          ∙ ap (λ xs. c.sections.word.items ++ xs) (sym (lead_some (separator_of s) index w.if-index-gt0.true))
      | else-index-gt0 w ↦
          ap (λ v. v.items) w.word-is ∙ sym (append-nil c.sections.word.items)
          ∙ ap (λ xs. c.sections.word.items ++ xs) (sym (lead_none (separator_of s) index w.if-index-gt0.false))
    ] in
    encoded_next sections c.sections-test.true c.section-item.is c.sections.invariant
    c.as_slice-lists.ensures c.index-lists-index.is c.if-index-gt0.word.items c.push_raised.new.word.items c.letter_count-offset.result begun
    (c.in_ok-push_raised.ensures ∙ ap (λ xs. c.if-index-gt0.word.items ++ raised c.sections.offset xs) c.as_slice.ensures) c.letter_count-offset.ensures

pub sections-init : goal.sections-init
sections-init c =
    let lists = c.args.configuration.now.lists in
    subst (IsEncoded c.args.system.now lists 0 0) (sym c.new-word.ensures.items) (encoded_none c.args.system.now lists c.requires)

pub bounds-lists-index : goal.bounds-lists-index
bounds-lists-index c =
    let index = c.sections.index in
    let sections = c.as_slice-section-items.ensures ∙ ap (λ d. d.sections) c.system.view_is in
    subst (λ xs. index < length xs) (sym c.as_slice-lists.ensures)
    (list_within sections c.sections-test.true c.section-item.is c.sections.invariant)

pub push_raised-requires : goal.push_raised-requires
push_raised-requires c =
    let sections = c.as_slice-section-items.ensures ∙ ap (λ d. d.sections) c.system.view_is in
    let counted = counted_on sections c.sections-test.true c.section-item.is c.sections.invariant in
    let fitting = list_fitting sections c.sections-test.true c.section-item.is c.sections.invariant c.as_slice-lists.ensures c.index-lists-index.is in
    subst (λ xs. All (λ a. a + c.sections.offset < 2 ^ 32) xs) (sym c.as_slice.ensures)
    (fitting_below c.section-item.result c.index-lists-index.result c.sections.offset (2 ^ 32) fitting
    (omega (arith, counted, c.separator-separator.ensures.valid.limits.letters_limit)))

pub overflow_add-offset : goal.overflow_add-offset
overflow_add-offset c =
    let sections = c.as_slice-section-items.ensures ∙ ap (λ d. d.sections) c.system.view_is in
    omega (arith, counted_on sections c.sections-test.true c.section-item.is c.sections.invariant, c.letter_count-offset.ensures, c.separator-separator.ensures.valid.limits.letters_limit)

pub returns : goal.returns
returns c =
    let sections = c.as_slice-section-items.ensures ∙ ap (λ d. d.sections) c.system.view_is in
    encoded_all (subst (λ xs. length xs ≤ c.sections.index) sections c.sections-test.false) c.sections.invariant
