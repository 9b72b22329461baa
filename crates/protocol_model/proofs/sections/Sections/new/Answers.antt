use Rattle.std.proofs.Common.{◌≡◌, None, Some, subst, ◌∷◌, [], ◌⊎◌, take, get_or, map, refl, ap, ◌∙◌, inr}
use Rattle.std.specs.Option.{option_or}
use Rattle.std.proofs.lemmas.List.{take_more, take_all, map-append}
use Rattle.std.proofs.lemmas.Result.{err_from_is_err_and}
use Rattle.protocol_model.specs.Numbering.{texts_of}
use Rattle.protocol_model.specs.Faults.{duplicate, section_fault, first_fault_of}
use Rattle.protocol_model.specs.declared.fault.ModelFault.TheVariants.{Memory}
use Rattle.protocol_model.proofs.Walk.{stops, goes_on, walked_all}
use Rattle.protocol_model.proofs.sections.Sections.new.Goals as goal

pub returns-in_err-names : goal.returns-in_err-names
returns-in_err-names c =
    let walk = c.sections in
    let item = c.section-item.result in
    let e = c.in_err-names.field-0.0 in
    let letters = first_fault_of (λ before. duplicate (texts_of before)) [] item.letters in
    let p = err_from_is_err_and c.from_residual.result c.from_residual.ensures.1 in
    rw (p.1, p.2)
    (stops section_fault (λ section. section.name.text) c.args.texts.now walk.section-index walk.numbers item e
    c.sections-test.true walk.invariant.0 c.section-item.is
    (subst (λ names. (option_or (duplicate names item.name) letters ≡ Some e) ⊎ (e ≡ Memory)) walk.invariant.0.values c.in_err-names.ensures.outcome))

pub sections-preserved : goal.sections-preserved
sections-preserved c =
    let walk = c.sections in
    let item = c.section-item.result in
    let letters = first_fault_of (λ before. duplicate (texts_of before)) [] item.letters in (
      rw c.in_ok-names.ensures.added
          (goes_on section_fault (λ section. section.name.text) c.args.texts.now walk.section-index walk.numbers item item.name.text
          c.sections-test.true walk.invariant.0 c.section-item.is
          (subst (λ names. option_or (duplicate names item.name) letters ≡ None) walk.invariant.0.values c.in_ok-names.ensures.outcome.0) refl),
      rw (
        c.in_ok-push.ensures.items,
        walk.invariant.1,
        c.in_ok-names.ensures.outcome.1,
        take_more c.args.texts.now walk.section-index item c.sections-test.true,
        map-append (λ section. texts_of section.letters) (take walk.section-index c.args.texts.now)
            (get_or c.args.texts.now walk.section-index item ∷ []),
        ← c.section-item.is,
      ) refl,
    )

pub returns-in_err-push : goal.returns-in_err-push
returns-in_err-push c =
    let p = err_from_is_err_and c.from_residual-in_err-push.result c.from_residual-in_err-push.ensures.1 in
    rw (p.1, p.2) (inr refl)

pub invariant_of-result : goal.invariant_of-result
invariant_of-result c =
    let texts = c.args.texts.now in
    let walk = c.sections in
    let all = walked_all section_fault (λ section. section.name.text) texts walk.section-index walk.numbers c.sections-test.false walk.invariant.0 in
    (all.1, walk.invariant.1 ∙ ap (map (λ section. texts_of section.letters)) (take_all walk.section-index texts c.sections-test.false))

pub returns : goal.returns
returns c =
    let texts = c.args.texts.now in
    let walk = c.sections in
    let all = walked_all section_fault (λ section. section.name.text) texts walk.section-index walk.numbers c.sections-test.false walk.invariant.0 in
    (all.0, refl)
