use Rattle.std.proofs.Common.{◌++◌, codes, flat_map, ap, ◌∙◌}
use Rattle.std.proofs.lemmas.List.{take_all}
use Rattle.configuration_words.specs.Texts.{letter_name}
use Rattle.configuration_words.proofs.Loops.{behind_more}
use Rattle.configuration_words.proofs.texts.push_letters.Goals as goal

pub letters-preserved : goal.letters-preserved
letters-preserved c =
    behind_more 32 (letter_name c.args.section.now) c.args.list.now c.letters.letter-index 0 c.args.text.now.items c.letters.text.items
    c.push.new.self.items c.push_letter.new.text.items c.letters-test.true c.letters.invariant c.in_ok-push.ensures.items c.in_ok-push_letter.ensures

pub returns : goal.returns
returns c =
    c.letters.invariant
    ∙ ap (λ list. c.args.text.now.items ++ flat_map (λ letter. codes " " ++ letter_name c.args.section.now letter) list)
    (take_all c.letters.letter-index c.args.list.now c.letters-test.false)
