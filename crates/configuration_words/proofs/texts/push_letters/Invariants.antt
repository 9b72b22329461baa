use Rattle.std.proofs.Common.{◌≡◌, ◌++◌, codes, take, flat_map}
use Rattle.configuration_words.specs.Texts.{letter_name}
use Rattle.configuration_words.proofs.texts.push_letters.Given as goal

abbrev pub invariant-letters : goal.invariant-letters
invariant-letters l =
    l.text.items ≡ l.initial.text.items ++ flat_map (λ letter. codes " " ++ letter_name l.section letter) (take l.letter-index l.list)
