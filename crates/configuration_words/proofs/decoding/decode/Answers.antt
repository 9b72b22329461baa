use Rattle.std.proofs.Common.{◌≡◌, ◌≤◌, ◌+◌, Some, true, length, subst, sym, ap, ◌∙◌, arith}
use Rattle.std.specs.Option.{option_copied}
use Rattle.protocol_model.specs.System.{letter_count}
use Rattle.protocol_model.specs.Patterns.{lists_fit}
use Rattle.protocol_model.specs.Words.{separator_of, raised_lists, joined}
use Rattle.configuration_words.specs.private.Cuts.{IsCut}
use Rattle.configuration_words.proofs.DecodingLemmas.{IsDecoded, counted_on, decoded_none, decoded_short, decoded_wrong, decoded_more, decoded_all, decoded_only, word_joined, copied_none, copied_some}
use Rattle.configuration_words.proofs.decoding.decode.Goals.{After-cut}
use Rattle.configuration_words.proofs.decoding.decode.Goals as goal

-- what stands before the next separator
cut_at : (c : After-cut) → IsCut (separator_of c.args.system.now) c.in-Some.letters.now c.cut.result.0.now (option_copied c.cut.result.1)
cut_at c = subst (λ a. IsCut a c.in-Some.letters.now c.cut.result.0.now (option_copied c.cut.result.1)) c.separator-separator.ensures.separator c.cut.ensures

pub returns-in_default-2-clause-found : goal.returns-in_default-2-clause-found
returns-in_default-2-clause-found c = λ d fitting e.
    decoded_wrong c.sections.invariant.0 c.sections-test.true c.section-item.is c.sections.invariant.1 c.in-Some.letters.now c.cut.result.0.now (option_copied c.cut.result.1)
    (ap option_copied c.in-Some.is) (cut_at (goal.at.returns-in_default-2-clause-found c).After-cut) (rw c.in_default-2.is at c.in_ok-list.ensures) d.lists
    (word_joined c.args.system.now c.separator-separator.ensures.valid.limits.some_section c.args.word.now d fitting e)

pub returns-in_default-2-clause-unique : goal.returns-in_default-2-clause-unique
returns-in_default-2-clause-unique c = λ d fitting e. absurd (returns-in_default-2-clause-found c d fitting e)

pub sections-preserved : goal.sections-preserved
sections-preserved c =
    let s = c.args.system.now in
    let index = c.sections.section-index in
    let both = rw c.in-Some-2.is at c.in_ok-list.ensures in
    let more = decoded_more c.sections.invariant.0 c.sections-test.true c.section-item.is c.sections.invariant.1 c.in-Some.letters.now c.cut.result.0.now (option_copied c.cut.result.1)
    (ap option_copied c.in-Some.is) (cut_at (goal.at.sections-preserved c).After-cut) c.in-Some-2.list both.0 both.1 in (
      c.sections.invariant.0,
      subst (λ n. IsDecoded s c.args.word.now (index + 1) (c.sections.offset + n) c.push.new.self.items (option_copied c.cut.result.1))
          (sym c.letter_count-offset.ensures)
          (subst (λ xs. IsDecoded s c.args.word.now (index + 1) (c.sections.offset + letter_count c.section-item.result) xs (option_copied c.cut.result.1)) (sym c.in_ok-push.ensures.items) more),
    )

pub returns-then-is_some-clause-found : goal.returns-then-is_some-clause-found
returns-then-is_some-clause-found c = λ d fitting e.
    let past = subst (λ xs. length xs ≤ c.sections.section-index) c.sections.invariant.0 c.sections-test.false in
    let only = decoded_only past c.sections.invariant.1 d.lists
    (word_joined c.args.system.now c.separator-separator.ensures.valid.limits.some_section c.args.word.now d fitting e) in
    copied_some c.sections.rest (sym c.if-is_some.ensures) only.1

pub returns-then-is_some-clause-unique : goal.returns-then-is_some-clause-unique
returns-then-is_some-clause-unique c = λ d fitting e. absurd (returns-then-is_some-clause-found c d fitting e)

pub returns-clause-found : goal.returns-clause-found
returns-clause-found c =
    let s = c.args.system.now in
    let past = subst (λ xs. length xs ≤ c.sections.section-index) c.sections.invariant.0 c.sections-test.false in
    let all = decoded_all past
    (subst (IsDecoded s c.args.word.now c.sections.section-index c.sections.offset c.sections.lists.items) (copied_none c.sections.rest (sym c.if-is_some.ensures)) c.sections.invariant.1) in (
      subst (λ xs. lists_fit s.sections xs ≡ true) (sym c.from_vec.ensures) all.0,
      subst (λ xs. c.args.word.now ≡ joined (separator_of s) (raised_lists 0 s.sections xs)) (sym c.from_vec.ensures) all.1,
    )

pub returns-clause-unique : goal.returns-clause-unique
returns-clause-unique c = λ d fitting e.
    let past = subst (λ xs. length xs ≤ c.sections.section-index) c.sections.invariant.0 c.sections-test.false in
    let only = decoded_only past c.sections.invariant.1 d.lists
    (word_joined c.args.system.now c.separator-separator.ensures.valid.limits.some_section c.args.word.now d fitting e) in
    ap (λ xs. Some (record { lists = xs })) (c.from_vec.ensures ∙ sym only.0)

pub sections-init : goal.sections-init
sections-init c =
    let s = c.args.system.now in
    let word = c.args.word.now in (
      c.as_slice-section-items.ensures ∙ ap (λ d. d.sections) c.system.view_is,
      subst (λ xs. IsDecoded s word 0 0 xs (Some word)) (sym c.new-lists.ensures.items) (decoded_none s word),
    )

pub returns-in_default-clause-found : goal.returns-in_default-clause-found
returns-in_default-clause-found c = λ d fitting e.
    decoded_short c.sections.invariant.0 c.sections-test.true c.section-item.is c.sections.invariant.1 (ap option_copied c.in_default.is) d.lists
    (word_joined c.args.system.now c.separator-separator.ensures.valid.limits.some_section c.args.word.now d fitting e)

pub returns-in_default-clause-unique : goal.returns-in_default-clause-unique
returns-in_default-clause-unique c = λ d fitting e. absurd (returns-in_default-clause-found c d fitting e)

pub lowered-requires : goal.lowered-requires
lowered-requires c =
    omega (arith, counted_on c.sections.invariant.0 c.sections-test.true c.section-item.is c.sections.invariant.1, c.separator-separator.ensures.valid.limits.letters_limit)

pub overflow_add-offset : goal.overflow_add-offset
overflow_add-offset c =
    let counted = counted_on c.sections.invariant.0 c.sections-test.true c.section-item.is c.sections.invariant.1 in
    omega (arith, counted, c.letter_count-offset.ensures, c.separator-separator.ensures.valid.limits.letters_limit)
