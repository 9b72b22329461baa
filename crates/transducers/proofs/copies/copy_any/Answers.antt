use Rattle.std.proofs.Common.{◌∙◌}
use Rattle.transducers.proofs.CopyLemmas.{any_in_range, built_any, Relates-any_copy}
use Rattle.transducers.proofs.copies.copy_any.Goals as goal

pub edges-requires-clause-edges_in_range : goal.edges-requires-clause-edges_in_range
edges-requires-clause-edges_in_range c =
    any_in_range c.args.letters c.args.offset c.args.count _ _ _ _ _ c.new-builder.ensures c.in_ok-state.ensures.number
    c.in_ok-state.ensures.added c.in_ok-start.ensures.added
    (c.as_slice.ensures.value ∙ c.in_ok-edges.ensures) c.requires

pub returns-clause-copies : goal.returns-clause-copies
returns-clause-copies c =
    let built = built_any c.args.letters c.args.offset c.args.count _ _ _ _ _ _ _ c.new-builder.ensures c.in_ok-state.ensures.number
    c.in_ok-state.ensures.added c.in_ok-start.ensures.added
    (c.as_slice.ensures.value ∙ c.in_ok-edges.ensures) c.in_ok-edges-2.ensures.added c.finish.ensures in
    λ u w. rw built (Relates-any_copy c.args.letters c.args.offset c.args.count u w)
