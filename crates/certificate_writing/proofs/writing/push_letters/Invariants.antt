use Rattle.std.proofs.Common.{◌≡◌, ◌++◌, take}
use Rattle.certificate.specs.SafeText.{letters_text}
use Rattle.certificate_writing.proofs.writing.push_letters.Given as goal

abbrev pub invariant-letters : goal.invariant-letters
invariant-letters l = l.text.items ≡ l.fn.text.items ++ letters_text l.alphabet (take l.letter-index l.letters)
