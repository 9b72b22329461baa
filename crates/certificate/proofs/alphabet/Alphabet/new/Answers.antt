use Rattle.certificate.proofs.alphabet.Alphabet.new.Goals as goal

pub invariant_of-result : goal.invariant_of-result
invariant_of-result c = record { valid = c.in_ok-texts.ensures.valid; texts_are = c.in_ok-texts.ensures.texts }
