use Rattle.std.proofs.Common.{◌≡◌, take, flat_map}
use Rattle.certificate.specs.Words.{section_texts}
use Rattle.certificate.proofs.alphabet.letter_texts.Given as goal

abbrev pub invariant-sections : goal.invariant-sections
invariant-sections l =
    (l.section-items ≡ l.system.sections) × (l.texts.items ≡ flat_map section_texts (take l.section-index l.section-items))
