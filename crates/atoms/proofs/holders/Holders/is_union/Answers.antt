use Rattle.std.proofs.Common.{[], ◌∙◌}
use Rattle.std.proofs.lemmas.List.{get_or_default}
use Rattle.atoms.proofs.Unions.{met_more, met_all}
use Rattle.atoms.proofs.holders.Holders.is_union.Goals as goal

pub places-init : goal.places-init
places-init c q has = absurd (c.in_ok-union.ensures.none q has)

pub places-preserved : goal.places-preserved
places-preserved c =
    let sets = c.args.sets.now in
    let holder = c.in-Some.holder in
    let other = c.index-sets-holder.result in
    met_more sets c.args.set.now holder other c.places.union c.add_all.new.self (c.index-sets-holder.is ∙ get_or_default sets holder other [] c.in-Some.ensures.0) c.in-Some.ensures
    c.add_all.ensures.only c.places.invariant

pub returns : goal.returns
returns c within = met_all c.args.sets.now c.args.set.now c.places.union c.places.invariant (c.is_within.ensures.0 within)
