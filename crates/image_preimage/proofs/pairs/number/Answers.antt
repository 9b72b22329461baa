use Rattle.std.proofs.Common.{◌≡◌, Some, IfOk, IfSome, slice_get, refl, sym, subst}
use Rattle.image_preimage.specs.Pairs.{Numbers}
use Rattle.image_preimage.proofs.PairLemmas.{Numbers-found}
use Rattle.image_preimage.proofs.SamePairs.{same_pair}
use Rattle.image_preimage.proofs.pairs.number.Goals as goal

pub holds-requires : goal.holds-requires
holds-requires c = same_pair

pub look_up-requires : goal.look_up-requires
look_up-requires c = same_pair

pub returns-then-holds : goal.returns-then-holds
returns-then-holds c =
    Numbers-found c.args.t.now c.args.a.now c.args.found.now.states.items c.args.builder.now c.requires.reached c.args.pair c.args.last (c.if-holds.ensures refl)

pub returns-in-Some : goal.returns-in-Some
returns-in-Some c =
    let t = c.args.t.now in
    let a = c.args.a.now in
    let old = c.args.found.now.states.items in
    let builder = c.args.builder.now in
    let pair = c.args.pair in
    let number = c.in-Some.number in
    let at = subst (λ o. IfSome o (λ place. slice_get old place ≡ Some pair)) c.in-Some.is c.in_ok-number.ensures.place in
    subst (λ new. Numbers t a old new builder builder pair number) (sym c.look_up.ensures.same)
    (Numbers-found t a old builder c.requires.reached pair number at)

pub returns : goal.returns
returns c =
    subst (λ found. IfOk c.add.result (Numbers c.args.t.now c.args.a.now found c.add.new.found.states.items c.args.builder.now c.add.new.builder c.args.pair))
    c.look_up.ensures.same c.add.ensures
