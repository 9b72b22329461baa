use Rattle.std.proofs.Common.{◌≡◌, ◌==◌, true, false, refl, sym, subst, ◌∙◌, arith}
use Rattle.std.specs.List.{list_any}
use Rattle.certificate.proofs.Taking.{takes_letter, second_letter}
use Rattle.certificate.proofs.reading.take_letter.Goals as goal

pub returns-then-is_among : goal.returns-then-is_among
returns-then-is_among c = λ t kept.
    second_letter c.args.alphabet.now t c.args.read.now kept c.args.letter (omega (arith, c.if-letter-size.false, c.size-size.ensures.count))
    (subst (λ letters. list_any (λ b. b == c.args.letter) letters ≡ true) c.as_slice.ensures.value (sym c.is_among.ensures ∙ c.if-is_among.true))

pub returns : goal.returns
returns c = λ t kept.
    takes_letter c.args.alphabet.now t c.args.read.now kept c.args.letter _ (omega (arith, c.if-letter-size.false, c.size-size.ensures.count))
    (subst (λ letters. list_any (λ b. b == c.args.letter) letters ≡ false) c.as_slice.ensures.value
    (sym c.is_among.ensures ∙ c.if-is_among.false)) refl c.in_ok-push.ensures.items
