use Rattle.std.proofs.Common.{[], ◌∷◌, ◌++◌, codes, decimal, sym, ap, ◌∙◌}
use Rattle.std.proofs.lemmas.List.{append_assoc}
use Rattle.certificate_writing.proofs.writing.write_counted.Goals as goal

pub returns : goal.returns
returns c =
    let counted = decimal c.args.counted in
    let budget = decimal c.args.budget in
    let end = codes "end" ++ 10 ∷ [] in
    ap (λ text. text.items) c.into_bytes.ensures.value
    ∙ c.in_ok-text.ensures.ok
    ∙ sym (append_assoc c.args.first.now (10 ∷ []) (codes "counted " ++ (counted ++ 10 ∷ []) ++ (codes "budget " ++ (budget ++ 10 ∷ []) ++ end))
    ∙ ap (λ rest. c.args.first.now ++ (10 ∷ codes "counted " ++ rest))
    (append_assoc counted (10 ∷ []) (codes "budget " ++ (budget ++ 10 ∷ []) ++ end)
    ∙ ap (λ rest. counted ++ (10 ∷ codes "budget " ++ rest)) (append_assoc budget (10 ∷ []) end)))
