use Rattle.std.proofs.Common.{◌≡◌, ◌++◌, codes, map, take}
use Rattle.certificate.proofs.alphabet.push_section.Given as goal

abbrev pub invariant-letters : goal.invariant-letters
invariant-letters l =
    (l.letter-items ≡ l.section.letters)
    × (l.texts.items ≡ l.fn.texts.items ++ map (λ letter. l.section.name ++ codes "." ++ letter) (take l.letter-index l.letter-items))
