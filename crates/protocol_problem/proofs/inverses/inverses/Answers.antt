use Rattle.std.proofs.Common.{arith, ◌≡◌, Some, slice_get, length, ap, sym, ◌∙◌}
use Rattle.std.proofs.lemmas.Option.{slice_get-get_or}
use Rattle.protocol_problem.proofs.ImageLemmas.{inverse_pushed}
use Rattle.protocol_problem.proofs.inverses.inverses.Goals as goal

pub transducers-preserved : goal.transducers-preserved
transducers-preserved c =
    let transducers = c.args.transducers.now in
    let turned = c.transducers.turned.items in
    let t = c.transducer-item.result in
    let at : slice_get transducers (length turned) ≡ Some t =
    ap (slice_get transducers) c.transducers.invariant.count ∙ (slice_get-get_or transducers c.transducers.transducer-index t (omega arith) ∙ ap Some (sym c.transducer-item.is)) in
    record {
      count = omega (arith, c.in_ok-push.ensures.len, c.transducers.invariant.count);
      each = inverse_pushed transducers turned c.push.new.self.items t c.in_ok-inverse.field-0 at
          (record { same_letters = c.in_ok-inverse.ensures.letters; related = c.in_ok-inverse.ensures.inverse })
          c.in_ok-push.ensures.items c.transducers.invariant.each;
    }
