use Rattle.std.proofs.Common.{length, ◌∙◌}
use Rattle.protocol_model.proofs.InRange.{each_at_most}
use Rattle.protocol_model.proofs.resolution.resolve.Goals as goal

pub new-requires-clause-few_letters : goal.new-requires-clause-few_letters
new-requires-clause-few_letters c =
    rw c.as_slice.ensures (each_at_most (λ section. length section.letters) 256 c.args.protocol.now.sections c.requires.letters_limit)

pub resolve_parts-requires-clause-sections : goal.resolve_parts-requires-clause-sections
resolve_parts-requires-clause-sections c = c.in_ok-sections.ensures.1 ∙ c.as_slice.ensures

pub resolve_parts-requires-clause-clean : goal.resolve_parts-requires-clause-clean
resolve_parts-requires-clause-clean c = rw c.as_slice.ensures at c.in_ok-sections.ensures.0
