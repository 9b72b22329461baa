use Rattle.std.proofs.Common.{[], length, get_or}
use Rattle.atoms.proofs.Unions.{numbers_at}
use Rattle.atoms.proofs.Growth.{empty_again, preimages_added}
use Rattle.atoms.proofs.family.Family.expand.Goals as goal

pub returns-clause-empty : goal.returns-clause-empty
returns-clause-empty c =
    let sets = c.args.self.now.sets.items in
    let same = numbers_at sets c.args.number c.index.result.now c.in_ok-places.places.items c.deref.result.now c.requires.within c.index.ensures c.in_ok-places.ensures c.deref.ensures.value in
    empty_again c.args.into.now c.args.used.now (get_or sets c.args.number []) c.deref.result.now same c.requires.sources (length c.args.preimages.now.items)
    c.args.preimages.now.items c.add_preimages-looked.new.sets.items c.take_each.new.sets.items c.requires.empty c.add_preimages-looked.ensures c.in_ok-take_each.ensures.none

pub returns-clause-added : goal.returns-clause-added
returns-clause-added c =
    let sets = c.args.self.now.sets.items in
    let same = numbers_at sets c.args.number c.index.result.now c.in_ok-places.places.items c.deref.result.now c.requires.within c.index.ensures c.in_ok-places.ensures c.deref.ensures.value in
    preimages_added c.args.into.now c.args.used.now (get_or sets c.args.number []) c.deref.result.now same c.requires.sources (length c.args.preimages.now.items)
    c.args.preimages.now.items c.add_preimages-looked.new.sets.items c.take_each.new.sets.items c.requires.empty c.add_preimages-looked.ensures c.in_ok-take_each.ensures.none
    sets c.take_each.new.self.sets.items c.in_ok-take_each.ensures.added
