use Rattle.certificate_writing.proofs.TextLemmas.{appended_more, appended_all}
use Rattle.certificate_writing.proofs.writing.push_words.Goals as goal

pub words-preserved : goal.words-preserved
words-preserved c =
    appended_more (λ word. word.now) c.args.words.now c.words.word-index c.args.text.now.items c.words.text.items c.words.invariant _
    c.extend_from_slice.new.self.items c.words-test.true c.in_ok-extend_from_slice.ensures.items

pub returns : goal.returns
returns c =
    appended_all (λ word. word.now) c.args.words.now c.words.word-index c.args.text.now.items c.words.text.items c.words.invariant c.words-test.false
