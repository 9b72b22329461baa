use Rattle.std.proofs.Common.{[], ◌∷◌, take, get_or, refl}
use Rattle.std.proofs.lemmas.List.{take_more, map-append}
use Rattle.protocol_model.proofs.resolution.copy_letters.Goals as goal

pub letters-preserved : goal.letters-preserved
letters-preserved c =
    let walk = c.letters in
    let item = c.letter-item.result in
    rw (
      c.in_ok-push.ensures.items,
      walk.invariant,
      c.in_ok-copy.ensures,
      take_more c.args.letters.now walk.letter-index item c.letters-test.true,
      map-append (λ name. name.text) (take walk.letter-index c.args.letters.now) (get_or c.args.letters.now walk.letter-index item ∷ []),
      ← c.letter-item.is,
    ) refl
