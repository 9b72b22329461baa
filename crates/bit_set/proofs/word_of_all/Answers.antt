use Rattle.std.proofs.Common.{◌≡◌, ℕ, List, [], get_or, ap, ◌∙◌, arith}
use Rattle.std.proofs.lemmas.List.{get_or_read}
use Rattle.bit_set.proofs.Sets.{word_skipped, word_joined}
use Rattle.bit_set.proofs.word_of_all.Goals as goal

pub places-preserved-then-place-sets : goal.places-preserved-then-place-sets
places-preserved-then-place-sets c =
    word_skipped c.args.sets.now c.args.places.now c.places.place-index c.args.at c.places.word c.places.invariant (omega arith) c.if-place-sets.true

pub places-preserved : goal.places-preserved
places-preserved c =
    let place = get_or c.args.places.now c.places.place-index 0 in
    let set = c.index-sets-place.result in
    let is : set ≡ get_or c.args.sets.now place [] = get_or_read c.args.sets.now place set c.if-place-sets.false c.index-sets-place.is [] in
    word_joined c.args.sets.now c.args.places.now c.places.place-index c.args.at c.places.word c.places.invariant (omega arith) c.word-word.result
    (c.word-word.ensures ∙ ap (λ (words : List ℕ). get_or words c.args.at 0) is)
