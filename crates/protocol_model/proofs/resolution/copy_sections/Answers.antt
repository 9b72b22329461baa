use Rattle.std.proofs.Common.{[], ◌∷◌, take, get_or, refl}
use Rattle.std.proofs.lemmas.List.{take_more, map-append}
use Rattle.protocol_model.specs.Numbering.{section_of}
use Rattle.protocol_model.proofs.resolution.copy_sections.Goals as goal

pub sections-preserved : goal.sections-preserved
sections-preserved c =
    let walk = c.sections in
    let item = c.section-item.result in
    rw (
      c.in_ok-push.ensures.items,
      walk.invariant,
      c.in_ok-copy.ensures,
      take_more c.args.sections.now walk.section-index item c.sections-test.true,
      map-append section_of (take walk.section-index c.args.sections.now) (get_or c.args.sections.now walk.section-index item ∷ []),
      ← c.section-item.is,
    ) refl
