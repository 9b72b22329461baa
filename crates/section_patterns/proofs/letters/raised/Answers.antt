use Rattle.std.proofs.Common.{◌+◌, ◌++◌, ◌∷◌, [], take, get_or, sym, ap, ◌∙◌, arith}
use Rattle.std.proofs.lemmas.List.{map_push, take_all, take_more}
use Rattle.protocol_model.specs.Words.{raised}
use Rattle.section_patterns.proofs.letters.raised.Goals as goal

pub letters-preserved : goal.letters-preserved
letters-preserved c =
    let letters = c.args.letters.now in
    let i = c.letters.letter-index in
    let a = get_or letters i 0 in
    c.in_ok-push.ensures.items
    ∙ ap (λ xs. xs ++ (a + c.args.offset) ∷ []) c.letters.invariant
    ∙ sym (map_push (λ x. x + c.args.offset) (take i letters) a)
    ∙ ap (raised c.args.offset) (sym (take_more letters i 0 c.letters-test.true))

pub returns : goal.returns
returns c = c.letters.invariant ∙ ap (raised c.args.offset) (take_all c.letters.letter-index c.args.letters.now c.letters-test.false)

pub overflow_add-letter : goal.overflow_add-letter
overflow_add-letter c = omega (arith, c.requires c.letters.letter-index 0 c.letters-test.true)
