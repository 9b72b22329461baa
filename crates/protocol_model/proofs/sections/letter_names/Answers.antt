use Rattle.std.proofs.Common.{◌≡◌, None, Some, subst, ◌⊎◌, refl}
use Rattle.std.proofs.lemmas.Result.{err_from_is_err_and}
use Rattle.protocol_model.specs.Numbering.{texts_of}
use Rattle.protocol_model.specs.Faults.{duplicate}
use Rattle.protocol_model.specs.declared.fault.ModelFault.TheVariants.{Memory}
use Rattle.protocol_model.proofs.Walk.{stops, goes_on}
use Rattle.protocol_model.proofs.sections.letter_names.Goals as goal

pub returns-in_err-add_name : goal.returns-in_err-add_name
returns-in_err-add_name c =
    let walk = c.letters in
    let item = c.letter-item.result in
    let e = c.in_err-add_name.field-0.0 in
    let p = err_from_is_err_and c.from_residual.result c.from_residual.ensures.1 in
    rw (p.1, p.2)
    (stops (λ before. duplicate (texts_of before)) (λ name. name.text) c.args.letters.now walk.letter-index walk.names item e
    c.letters-test.true walk.invariant c.letter-item.is
    (subst (λ names. (duplicate names item ≡ Some e) ⊎ (e ≡ Memory)) walk.invariant.values c.in_err-add_name.ensures.outcome))

pub letters-preserved : goal.letters-preserved
letters-preserved c =
    let walk = c.letters in
    let item = c.letter-item.result in
    rw c.in_ok-add_name.ensures.added
    (goes_on (λ before. duplicate (texts_of before)) (λ name. name.text) c.args.letters.now walk.letter-index walk.names item item.text
    c.letters-test.true walk.invariant c.letter-item.is
    (subst (λ names. duplicate names item ≡ None) walk.invariant.values c.in_ok-add_name.ensures.outcome.0) refl)
