use Rattle.std.proofs.Common.{◌<◌, length, take, get_or, ap, sym, ◌∙◌, arith}
use Rattle.std.proofs.lemmas.List.{take_more}
use Rattle.bit_set.specs.Digest.{mixed, digest}
use Rattle.bit_set.proofs.Digests.{digest_more}
use Rattle.bit_set.proofs.words.digest.Goals as goal

pub words-preserved : goal.words-preserved
words-preserved c =
    let words = c.args.words.now in
    let i = c.words.word-index in
    let lt : i < length words = omega arith in
    c.mixed-number.ensures ∙ ap (λ number. mixed number (get_or words i 0)) c.words.invariant
    ∙ sym (digest_more 0 (take i words) (get_or words i 0)) ∙ sym (ap digest (take_more words i 0 lt))
