use Rattle.std.proofs.Common.{◌≡◌, ◌++◌, ◌∷◌, [], Some, IfSome, slice_get, refl, sym, ap, ◌∙◌, subst}
use Rattle.image_preimage.specs.private.Triples.{Finds}
use Rattle.image_preimage.proofs.SameTriples.{same_triple}
use Rattle.image_preimage.proofs.TripleLemmas.{finds_old, finds_new}
use Rattle.image_preimage.proofs.triples.Triples.find.Goals as goal

pub holds-requires : goal.holds-requires
holds-requires c = same_triple

pub look_up-requires : goal.look_up-requires
look_up-requires c = same_triple

pub returns-then-holds : goal.returns-then-holds
returns-then-holds c =
    finds_old c.args.self.now.t.now c.args.self.now.a.now c.args.self.now.b.now c.args.found.now.states.items c.args.triple c.args.last
    c.requires.reached (c.if-holds.ensures refl)

pub returns-in-Some : goal.returns-in-Some
returns-in-Some c =
    let self = c.args.self.now in
    let old = c.args.found.now.states.items in
    let at : slice_get old c.in-Some.place ≡ Some c.args.triple =
    subst (λ o. IfSome o (λ place. slice_get old place ≡ Some c.args.triple)) c.in-Some.is c.in_ok-place.ensures.place in
    subst (λ new. Finds self.t.now self.a.now self.b.now old new c.args.triple) (sym c.look_up.ensures.same)
    (finds_old self.t.now self.a.now self.b.now old c.args.triple c.in-Some.place c.requires.reached at)

pub returns : goal.returns
returns c =
    let self = c.args.self.now in
    finds_new self.t.now self.a.now self.b.now c.args.found.now.states.items c.push.new.self.states.items c.args.triple c.requires.reached
    c.requires.triple (c.in_ok-push.ensures ∙ ap (λ l. l ++ c.args.triple ∷ []) c.look_up.ensures.same)
