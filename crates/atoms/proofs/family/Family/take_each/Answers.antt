use Rattle.std.proofs.Common.{◌≡◌, ◌<◌, [], length, get_or, subst, ◌∙◌, arith}
use Rattle.std.proofs.lemmas.List.{get_or_default}
use Rattle.bit_set.specs.Bits.{Has}
use Rattle.atoms.specs.private.Family.{AddsUnion, AddsUnions}
use Rattle.atoms.proofs.Growth.{emptied_none, emptied_more, emptied_all, unions_none, unions_more}
use Rattle.atoms.proofs.family.Family.take_each.Goals as goal

pub sets-init : goal.sets-init
sets-init c = record {
  seen = c.requires;
  added = unions_none c.args.self.now.sets.items c.args.sets.now.items;
  emptied = emptied_none c.args.sets.now.items;
}

pub sets-preserved : goal.sets-preserved
sets-preserved c =
    let at = c.sets.at in
    let before = c.sets.invariant in
    let sets = c.sets.sets.items in
    let was = c.index_mut-set.result.now in
    let within : at < length sets = (let t = c.sets-test.true in let e = c.len-at-end.ensures in let n = before.emptied.count in omega arith) in
    let is : was ≡ get_or sets at [] = c.index_mut-set.ensures.value ∙ get_or_default sets at was [] within in
    record {
      seen = c.in_ok-take.ensures.seen;
      added = unions_more c.args.self.now.sets.items c.sets.self.sets.items c.take.new.self.sets.items c.args.sets.now.items at before.added
          (subst (λ s. AddsUnion c.sets.self.sets.items c.take.new.self.sets.items (Has s)) (is ∙ before.emptied.later at (omega arith)) c.in_ok-take.ensures.added);
      emptied = emptied_more c.args.sets.now.items sets at was c.take.new.set within is c.in_ok-take.ensures.none c.in_ok-take.ensures.room before.emptied;
    }

pub returns-clause-added : goal.returns-clause-added
returns-clause-added c =
    let end : c.sets.at ≡ length c.args.sets.now.items = (let t = c.sets-test.false in let l = c.sets.auto.at-end in let e = c.len-at-end.ensures in omega arith) in
    subst (AddsUnions c.args.self.now.sets.items c.sets.self.sets.items c.args.sets.now.items) end c.sets.invariant.added

pub returns-clause-none : goal.returns-clause-none
returns-clause-none c =
    emptied_all c.args.sets.now.items c.sets.sets.items c.sets.at (let t = c.sets-test.false in let l = c.sets.auto.at-end in let e = c.len-at-end.ensures in omega arith) c.sets.invariant.emptied
