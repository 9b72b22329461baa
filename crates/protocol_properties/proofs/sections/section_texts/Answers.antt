use Rattle.std.proofs.Common.{[], ◌∷◌, take, get_or, refl}
use Rattle.std.proofs.lemmas.List.{take_more, map-append}
use Rattle.protocol_properties.specs.Sections.{section_text}
use Rattle.protocol_properties.proofs.sections.section_texts.Goals as goal

pub sections-preserved : goal.sections-preserved
sections-preserved c =
    let walk = c.sections in
    let item = c.section-item.result in
    rw (
      c.in_ok-push.ensures.items,
      walk.invariant,
      c.in_ok-text.ensures,
      take_more c.args.sections.now walk.section-index item c.sections-test.true,
      map-append section_text (take walk.section-index c.args.sections.now) (get_or c.args.sections.now walk.section-index item ∷ []),
      ← c.section-item.is,
    ) refl
