use Rattle.std.proofs.Common.{◌≡◌, ◌++◌, ◌∷◌, [], append-nil, append_assoc, sym, ap, ◌∙◌, arith}
use Rattle.std.proofs.lemmas.List.{nil_from_length}
use Rattle.std.specs.Vec.Iter.{into_iter_items}
use Rattle.protocol_problem.proofs.flagged.flagged.Goals as goal

pub transducers-preserved : goal.transducers-preserved
transducers-preserved c =
    let before = c.transducers.flagged.items in
    let rest = into_iter_items c.next.new.self in
    let x = c.in-Some.transducer in (
      tt,
      tt,
      c.transducers.invariant.2 ∙ ap (λ l. before ++ l) c.in-Some.ensures.steps.0 ∙ sym (append_assoc before (x ∷ []) rest)
          ∙ ap (λ l. l ++ rest) (sym (c.in_ok-push.ensures.items ∙ ap (λ y. before ++ y ∷ []) c.in_ok-new.ensures)),
    )

pub returns : goal.returns
returns c =
    let none : into_iter_items c.transducers.transducer-iterator ≡ [] =
    nil_from_length (into_iter_items c.transducers.transducer-iterator)
    (let l = c.transducers.transducer-iterator.rest.ok.0 in let z = c.in-None.ensures.steps.0 in omega arith) in
    sym (c.transducers.invariant.2 ∙ ap (λ l. c.transducers.flagged.items ++ l) none ∙ append-nil c.transducers.flagged.items)
