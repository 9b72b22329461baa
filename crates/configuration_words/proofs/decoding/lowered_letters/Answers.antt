use Rattle.std.proofs.Common.{◌+◌, ◌++◌, take, drop, get_or, ap, sym, ◌∙◌, arith}
use Rattle.std.proofs.lemmas.List.{drop_more, take_all, take-append-drop}
use Rattle.configuration_words.proofs.WordLemmas.{raised_at}
use Rattle.configuration_words.proofs.decoding.lowered_letters.Goals as goal
use Rattle.configuration_words.proofs.decoding.lowered_letters.Goals.{then-letter-offset-via-then-letter-offset, then-letter-offset-via-else-letter-offset+then-letter-offset-2}

pub returns-then-letter-offset : goal.returns-then-letter-offset
returns-then-letter-offset c = λ list below e.
    let index = c.letters.letter-index in
    let letters = c.args.letters.now in
    let stands = ap (λ rest. take index letters ++ rest) (sym (drop_more letters index 0 c.letters-test.true)) ∙ take-append-drop index letters ∙ e in
    let within = raised_at c.args.offset c.args.count list (take index letters) (drop (index + 1) letters) (get_or letters index 0) below stands in
    elim c.then-letter-offset.branch [
      | then-letter-offset-via-then-letter-offset w ↦ omega (arith, within.0, w.if-letter-offset.true)
      | then-letter-offset-via-else-letter-offset+then-letter-offset-2 w ↦ omega (arith, within.0, within.1, w.if-letter-offset-2.true)
    ]

pub returns : goal.returns
returns c = (c.letters.invariant.0, sym (take_all c.letters.letter-index c.args.letters.now c.letters-test.false) ∙ c.letters.invariant.1)
