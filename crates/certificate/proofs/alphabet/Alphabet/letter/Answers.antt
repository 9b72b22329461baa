use Rattle.std.proofs.Common.{◌≡◌, ◌<◌, ◌∙◌, Some, length, sym, ap, arith, subst}
use Rattle.std.specs.List.{position}
use Rattle.std.specs.Str.{bytes_eq}
use Rattle.certificate.specs.Words.{letter_texts}
use Rattle.certificate.proofs.AlphabetLemmas.{letter-found}
use Rattle.certificate.proofs.alphabet.Alphabet.letter.Goals as goal

pub returns-then-is : goal.returns-then-is
returns-then-is c =
    let texts = c.self.inside.texts.items in
    let within : c.in-Some.place < length texts = omega (arith, c.if-place-len.true, c.len.ensures) in
    subst (λ s. Some c.in-Some.place ≡ position (bytes_eq c.args.text.now) (letter_texts s.sections)) c.self.view_is
    (letter-found c.self.inside.system.now texts c.self.invariant c.args.text.now c.in-Some.place c.index.result.now within c.index.ensures
    (ap (bytes_eq c.args.text.now) (sym (c.as_bytes.ensures.value ∙ c.as_str.ensures)) ∙ sym c.is.ensures ∙ c.if-is.true))

pub returns : goal.returns
returns c =
    subst (λ s. c.place_among.result ≡ position (bytes_eq c.args.text.now) (letter_texts s.sections)) c.self.view_is
    (c.place_among.ensures ∙ ap (position (bytes_eq c.args.text.now)) (c.as_slice.ensures.value ∙ c.self.invariant.texts_are))
