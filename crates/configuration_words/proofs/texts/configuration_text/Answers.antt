use Rattle.std.proofs.Common.{◌≡◌, ◌<◌, ◌≤◌, ◌++◌, All, length, subst, sym, ap, ◌∙◌}
use Rattle.std.proofs.lemmas.List.{append-nil}
use Rattle.protocol_model.specs.System.{IsValid, letter_count}
use Rattle.configuration_words.specs.Texts.{part_text}
use Rattle.configuration_words.specs.ConfigurationText.{MeansConfiguration}
use Rattle.configuration_words.proofs.TextLemmas.{IsWritten, lead, lead_none, lead_some, list_within, letters_below, written_none, written_more, written_all}
use Rattle.configuration_words.proofs.TokenLemmas.{text_means}
use Rattle.configuration_words.proofs.texts.configuration_text.Goals as goal
use Rattle.configuration_words.proofs.texts.configuration_text.Goals.{then-index-gt0+in_ok-extend_from_slice, else-index-gt0}

pub sections-preserved : goal.sections-preserved
sections-preserved c =
    let index = c.sections.index in
    let sections = c.as_slice-section-items.ensures ∙ ap (λ d. d.sections) c.system.view_is in
    let begun : c.if-index-gt0.text.items ≡ c.sections.text.items ++ lead index =
    elim c.if-index-gt0.branch [
      | then-index-gt0+in_ok-extend_from_slice w ↦
          ap (λ v. v.items) w.text-is ∙ w.in_ok-extend_from_slice.ensures.items
          ∙ ap (λ xs. c.sections.text.items ++ xs) (sym (lead_some index w.if-index-gt0.true))
      | else-index-gt0 w ↦
          ap (λ v. v.items) w.text-is ∙ sym (append-nil c.sections.text.items)
          ∙ ap (λ xs. c.sections.text.items ++ xs) (sym (lead_none index w.if-index-gt0.false))
    ] in
    written_more sections c.sections-test.true c.section-item.is c.sections.invariant c.as_slice-lists.ensures c.index-lists-index.is c.if-index-gt0.text.items c.push_part.new.text.items begun
    (c.in_ok-push_part.ensures ∙ ap (λ xs. c.if-index-gt0.text.items ++ part_text c.section-item.result xs) c.as_slice.ensures)

pub returns-clause-read_back : goal.returns-clause-read_back
returns-clause-read_back c =
    let s = c.args.system.now in
    let d = c.args.configuration.now in
    let sections = c.as_slice-section-items.ensures ∙ ap (λ e. e.sections) c.system.view_is in
    let past = subst (λ xs. length xs ≤ c.sections.index) sections c.sections-test.false in
    subst (λ text. MeansConfiguration s text d) (sym (written_all s d.lists c.sections.index c.sections.text.items past c.sections.invariant))
    (text_means s d (subst IsValid c.system.view_is c.system.invariant) c.requires)

pub sections-init : goal.sections-init
sections-init c =
    let lists = c.args.configuration.now.lists in
    subst (IsWritten c.args.system.now lists 0) (sym c.new-text.ensures.items) (written_none c.args.system.now lists c.requires)

pub bounds-lists-index : goal.bounds-lists-index
bounds-lists-index c =
    let index = c.sections.index in
    let sections = c.as_slice-section-items.ensures ∙ ap (λ d. d.sections) c.system.view_is in
    subst (λ xs. index < length xs) (sym c.as_slice-lists.ensures)
    (list_within sections c.sections-test.true c.section-item.is c.sections.invariant)

pub push_part-requires : goal.push_part-requires
push_part-requires c =
    let sections = c.as_slice-section-items.ensures ∙ ap (λ d. d.sections) c.system.view_is in
    subst (λ xs. All (λ a. a < letter_count c.section-item.result) xs) (sym c.as_slice.ensures)
    (letters_below sections c.sections-test.true c.section-item.is c.sections.invariant c.as_slice-lists.ensures c.index-lists-index.is)

pub returns-clause-text : goal.returns-clause-text
returns-clause-text c =
    let sections = c.as_slice-section-items.ensures ∙ ap (λ d. d.sections) c.system.view_is in
    written_all c.args.system.now c.args.configuration.now.lists c.sections.index c.sections.text.items
    (subst (λ xs. length xs ≤ c.sections.index) sections c.sections-test.false) c.sections.invariant
