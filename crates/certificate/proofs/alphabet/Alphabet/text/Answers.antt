use Rattle.std.proofs.Common.{◌<◌, ◌∙◌, sym, ap, arith, subst}
use Rattle.protocol_model.specs.Words.{automata_letters}
use Rattle.certificate.specs.Words.{letter_text}
use Rattle.certificate.proofs.AlphabetLemmas.{letters_counted, letter_text-at}
use Rattle.certificate.proofs.alphabet.Alphabet.text.Goals as goal

pub index-text-requires : goal.index-text-requires
index-text-requires c =
    let counted = letters_counted c.self.inside.system.now c.self.inside.texts.items c.self.invariant.texts_are in
    let within = subst (λ s. c.args.letter < automata_letters s) (sym c.self.view_is) c.requires in
    omega (arith, counted, within)

pub returns : goal.returns
returns c =
    let s = c.self.inside.system.now in
    let texts = c.self.inside.texts.items in
    let counted = letters_counted s texts c.self.invariant.texts_are in
    let within = subst (λ s. c.args.letter < automata_letters s) (sym c.self.view_is) c.requires in
    c.as_bytes.ensures.value
    ∙ c.as_str.ensures
    ∙ letter_text-at s texts c.self.invariant.texts_are c.args.letter c.index-text.result.now (omega (arith, counted, within)) c.index-text.ensures
    ∙ ap (λ s. letter_text s.sections c.args.letter) c.self.view_is
