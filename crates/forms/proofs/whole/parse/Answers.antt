use Rattle.std.proofs.Common.{◌≡◌, length, sym, subst, refl, arith}
use Rattle.std.proofs.lemmas.Result.{err_from_is_err_and}
use Rattle.std.specs.Prelude.{◌↔◌}
use Rattle.protocol_lexer.specs.Tokens.{AreTokens}
use Rattle.forms.specs.declared.fault.SyntaxFault.{SyntaxFault}
use Rattle.forms.specs.FirstFault.{IsFault}
use Rattle.forms.proofs.AllTokens.{lies_at, not_memory}
use Rattle.forms.proofs.Texts.{text_meaning, text_no_fault, short_text_fault, short_text_meaning, failed_text_fault, failed_text_meaning, bad_byte_fault, bad_byte_meaning}
use Rattle.forms.proofs.whole.parse.Goals as goal

pub returns-in-Err-BadByte-clause-no_meaning : goal.returns-in-Err-BadByte-clause-no_meaning
returns-in-Err-BadByte-clause-no_meaning g c = λ _.
    bad_byte_meaning (g.X.Form.grammar c.args.form.now) c.one_reading.ensures.either c.args.text.now c.in-Err-BadByte.place
    (c.in-Err-BadByte.ensures.bad_byte c.in-Err-BadByte.place (rw c.in-Err-BadByte.field-0-is refl))

pub returns-in-Err-BadByte-clause-fault : goal.returns-in-Err-BadByte-clause-fault
returns-in-Err-BadByte-clause-fault g c = λ _.
    let x = g.X.Form.grammar c.args.form.now in
    subst (λ (f : SyntaxFault). (other : SyntaxFault) → IsFault x c.args.text.now other ↔ (f ≡ other)) (cc)
    (bad_byte_fault x c.one_reading.ensures.bad_byte c.one_reading.ensures.either c.args.text.now c.in-Err-BadByte.place
    (c.in-Err-BadByte.ensures.bad_byte c.in-Err-BadByte.place (rw c.in-Err-BadByte.field-0-is refl)))

pub invariant_of-source : goal.invariant_of-source
invariant_of-source g c = record {
  tokens_lie_in_text = λ i t e.
      lies_at c.args.text.now c.in-Ok.tokens.items c.in-Ok.ensures.lie_in_order.each i t (rw c.as_slice.ensures.value at e);
}

pub returns-in_err-found-clause-no_meaning : goal.returns-in_err-found-clause-no_meaning
returns-in_err-found-clause-no_meaning g c =
    let x = g.X.Form.grammar c.args.form.now in
    let taken : AreTokens c.args.text.now c.as_slice.result.now = rw c.as_slice.ensures.value c.in-Ok.ensures.taken in
    let p = err_from_is_err_and c.from_residual.result c.from_residual.ensures.1 in
    rw p.1 (λ h. failed_text_meaning x c.requires.uniform c.requires.told c.one_reading.ensures.tokens c.one_reading.ensures.either
    c.args.text.now c.as_slice.result.now taken p.0 (not_memory p.0 _ h (rw p.2 c.in_err-found.ensures)))

pub returns-in_err-found-clause-fault : goal.returns-in_err-found-clause-fault
returns-in_err-found-clause-fault g c =
    let x = g.X.Form.grammar c.args.form.now in
    let taken : AreTokens c.args.text.now c.as_slice.result.now = rw c.as_slice.ensures.value c.in-Ok.ensures.taken in
    let p = err_from_is_err_and c.from_residual.result c.from_residual.ensures.1 in
    rw p.1 (λ h. failed_text_fault x c.requires.uniform c.requires.told c.one_reading.ensures.tokens c.one_reading.ensures.either
    c.args.text.now c.as_slice.result.now taken p.0 (not_memory p.0 _ h (rw p.2 c.in_err-found.ensures)))

pub returns-then-at-len-clause-meaning : goal.returns-then-at-len-clause-meaning
returns-then-at-len-clause-meaning g c =
    let x = g.X.Form.grammar c.args.form.now in
    let taken : AreTokens c.args.text.now c.as_slice.result.now = rw c.as_slice.ensures.value c.in-Ok.ensures.taken in
    let size : c.read.new.at ≡ length c.as_slice.result.now = omega (arith, c.as_slice.ensures.len, c.len.ensures, c.if-at-len.true) in
    text_meaning x c.requires.uniform c.requires.told c.one_reading.ensures.tokens c.one_reading.ensures.either
    c.args.text.now c.as_slice.result.now taken c.in_ok-found.found c.read.new.at c.in_ok-found.ensures size

pub returns-then-at-len-clause-no_fault : goal.returns-then-at-len-clause-no_fault
returns-then-at-len-clause-no_fault g c =
    let x = g.X.Form.grammar c.args.form.now in
    let taken : AreTokens c.args.text.now c.as_slice.result.now = rw c.as_slice.ensures.value c.in-Ok.ensures.taken in
    let size : c.read.new.at ≡ length c.as_slice.result.now = omega (arith, c.as_slice.ensures.len, c.len.ensures, c.if-at-len.true) in
    text_no_fault x c.requires.uniform c.requires.told c.one_reading.ensures.tokens c.one_reading.ensures.either
    c.args.text.now c.as_slice.result.now taken c.in_ok-found.found c.read.new.at c.in_ok-found.ensures size

pub returns-clause-no_meaning : goal.returns-clause-no_meaning
returns-clause-no_meaning g c = λ _.
    let x = g.X.Form.grammar c.args.form.now in
    let taken : AreTokens c.args.text.now c.as_slice.result.now = rw c.as_slice.ensures.value c.in-Ok.ensures.taken in
    short_text_meaning x c.requires.uniform c.requires.told c.one_reading.ensures.tokens c.one_reading.ensures.either
    c.args.text.now c.as_slice.result.now taken c.in_ok-found.found c.read.new.at c.in_ok-found.ensures
    (λ h. c.if-at-len.false (omega (arith, h, c.as_slice.ensures.len, c.len.ensures)))

pub returns-clause-fault : goal.returns-clause-fault
returns-clause-fault g c = λ _.
    let x = g.X.Form.grammar c.args.form.now in
    let taken : AreTokens c.args.text.now c.as_slice.result.now = rw c.as_slice.ensures.value c.in-Ok.ensures.taken in
    subst (λ (f : SyntaxFault). (other : SyntaxFault) → IsFault x c.args.text.now other ↔ (f ≡ other)) (sym c.unexpected.ensures)
    (short_text_fault x c.requires.uniform c.requires.told c.one_reading.ensures.tokens c.one_reading.ensures.either
    c.args.text.now c.as_slice.result.now taken c.in_ok-found.found c.read.new.at c.in_ok-found.ensures
    (λ h. c.if-at-len.false (omega (arith, h, c.as_slice.ensures.len, c.len.ensures))))
