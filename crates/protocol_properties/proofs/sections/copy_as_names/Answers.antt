use Rattle.std.proofs.Common.{[], ◌∷◌, take, get_or, refl}
use Rattle.std.proofs.lemmas.List.{take_more, map-append}
use Rattle.protocol_properties.specs.Sections.{name_of}
use Rattle.protocol_properties.proofs.sections.copy_as_names.Goals as goal

pub texts-preserved : goal.texts-preserved
texts-preserved c =
    let walk = c.texts in
    let item = c.text-item.result in
    rw (
      c.in_ok-push.ensures.items,
      walk.invariant,
      c.in_ok-name.ensures,
      take_more c.args.texts.now walk.text-index item c.texts-test.true,
      map-append name_of (take walk.text-index c.args.texts.now) (get_or c.args.texts.now walk.text-index item ∷ []),
      ← c.text-item.is,
    ) refl
