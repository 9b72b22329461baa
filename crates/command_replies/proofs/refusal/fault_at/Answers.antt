use Rattle.std.proofs.Common.{◌∙◌, ◌++◌, [], ◌∷◌, ap, sym, append_assoc, codes, decimal}
use Rattle.command_replies.proofs.refusal.fault_at.Goals as goal

pub returns : goal.returns
returns c =
    let number = decimal c.args.number in
    let words = c.args.words.now in
    let defined = append_assoc (number ++ codes ": ") words (10 ∷ []) ∙ append_assoc number (codes ": ") (words ++ 10 ∷ []) in
    ap (λ v. v.items) c.into_bytes.ensures.value
    ∙ c.in_ok-made.ensures.ok
    ∙ ap (λ rest. codes "armc: certificate: line " ++ rest) (sym defined)
