use Rattle.std.proofs.Common.{◌+◌, ◌++◌, ap, ◌∙◌}
use Rattle.std.proofs.lemmas.List.{take_all}
use Rattle.protocol_model.specs.Words.{raised}
use Rattle.configuration_words.proofs.Loops.{mapped_more}
use Rattle.configuration_words.proofs.encoding.push_raised.Goals as goal

pub letters-preserved : goal.letters-preserved
letters-preserved c =
    mapped_more (λ a. a + c.args.offset) c.args.list.now c.letters.letter-index 0 c.args.word.now.items c.letters.word.items c.push.new.self.items
    c.letters-test.true c.letters.invariant c.in_ok-push.ensures.items

pub returns : goal.returns
returns c =
    c.letters.invariant
    ∙ ap (λ list. c.args.word.now.items ++ raised c.args.offset list) (take_all c.letters.letter-index c.args.list.now c.letters-test.false)
