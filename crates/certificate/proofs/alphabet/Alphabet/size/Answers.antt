use Rattle.std.proofs.Common.{◌≡◌, arith, length, subst}
use Rattle.protocol_model.specs.Words.{automata_letters}
use Rattle.certificate.specs.Words.{letter_texts}
use Rattle.certificate.proofs.AlphabetLemmas.{length-letter_texts, letters_counted}
use Rattle.certificate.proofs.alphabet.Alphabet.size.Goals as goal

pub overflow_cast-result : goal.overflow_cast-result
overflow_cast-result c =
    let counted = letters_counted c.self.inside.system.now c.self.inside.texts.items c.self.invariant.texts_are in
    omega (arith, counted, c.self.invariant.valid.limits.letters_limit, c.len.ensures)

pub returns-clause-count : goal.returns-clause-count
returns-clause-count c =
    let counted = letters_counted c.self.inside.system.now c.self.inside.texts.items c.self.invariant.texts_are in
    subst (λ s. c.len.result ≡ automata_letters s) c.self.view_is (omega (arith, counted, c.len.ensures))

pub returns-clause-texts : goal.returns-clause-texts
returns-clause-texts c =
    let s = c.self.inside.system.now in
    let counted = letters_counted s c.self.inside.texts.items c.self.invariant.texts_are in
    subst (λ s. c.len.result ≡ length (letter_texts s.sections)) c.self.view_is
    (omega (arith, counted, length-letter_texts s.sections, c.len.ensures))
