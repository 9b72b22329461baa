use Rattle.std.proofs.Common.{get_or, refl, ◌∙◌, [], arith}
use Rattle.std.proofs.lemmas.List.{get_or_default}
use Rattle.atoms.proofs.UsedStates.{no_place, no_list, sources_added}
use Rattle.atoms.proofs.preimages.add_sources_of.Goals as goal

pub returns-then-place-used : goal.returns-then-place-used
returns-then-place-used c = no_place c.args.into.now c.args.used.now c.args.place c.args.sets.now.items (let t = c.if-place-used.true in omega arith)

pub returns-then-state-into : goal.returns-then-state-into
returns-then-state-into c = no_list c.args.into.now c.args.used.now c.args.place c.args.sets.now.items _ refl (let t = c.if-state-into.true in omega arith)

pub returns : goal.returns
returns c =
    let state = get_or c.args.used.now c.args.place 0 in
    sources_added c.args.into.now c.args.used.now c.args.place c.args.sets.now.items c.add_sources.new.sets.items c.as_slice-edges.result.now c.if-place-used.false
    (c.as_slice-edges.ensures ∙ c.index-into-state.is ∙ get_or_default c.args.into.now state c.index-into-state.result [] c.if-state-into.false)
    c.add_sources.ensures
