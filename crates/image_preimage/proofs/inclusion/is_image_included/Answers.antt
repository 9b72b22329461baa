use Rattle.std.proofs.Common.{◌≡◌, ◌↔◌, false, IsTrue, IfOk, sym, subst}
use Rattle.std.proofs.lemmas.Result.{IfOk-weaker}
use Rattle.transducers.specs.Transducer.{Transducer}
use Rattle.image_preimage.specs.Images.{HasImageOutside, IsImageIncluded}
use Rattle.image_preimage.specs.private.CopyingStates.{AreCopying}
use Rattle.image_preimage.specs.private.Triples.{Decides}
use Rattle.image_preimage.proofs.WalkLemmas.{carried}
use Rattle.image_preimage.proofs.inclusion.is_image_included.Goals as goal

pub walk-requires-clause-copying : goal.walk-requires-clause-copying
walk-requires-clause-copying c = subst (λ (t : Transducer). AreCopying t c.copying.result.now) (sym c.transducer.ensures) c.copying.ensures

pub returns : goal.returns
returns c =
    let t = c.transducer.result.now in
    let a = c.as_dfa.result.now in
    let b = c.as_dfa-2.result.now in
    record {
      included = carried (λ t a b. IfOk c.walk.result (λ included. IsTrue included ↔ IsImageIncluded t a b)) c.transducer.ensures c.as_dfa.ensures.same c.as_dfa-2.ensures.same
          (IfOk-weaker c.walk.result (Decides t a b) (λ included. IsTrue included ↔ IsImageIncluded t a b) (λ included d. d.included_is) c.walk.ensures);
      outside = carried (λ t a b. IfOk c.walk.result (λ included. included ≡ false → HasImageOutside t a b)) c.transducer.ensures c.as_dfa.ensures.same
          c.as_dfa-2.ensures.same
          (IfOk-weaker c.walk.result (Decides t a b) (λ included. included ≡ false → HasImageOutside t a b) (λ included d. d.outside) c.walk.ensures);
    }
