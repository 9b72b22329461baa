use Rattle.std.proofs.Common.{◌∙◌, ◌++◌, [], ◌∷◌, ap, sym, append_assoc, codes, decimal}
use Rattle.command_replies.proofs.refusal.line_at.Goals as goal

pub returns : goal.returns
returns c =
    let kind = c.args.kind.now in
    let number = decimal c.args.place.line in
    let column = decimal c.args.place.column in
    let words = c.args.words.now in
    let name = c.args.name.now in
    let end = words ++ (name ++ 10 ∷ []) in
    let fifth = codes ": " ++ end in
    let fourth = column ++ fifth in
    let third = codes " column " ++ fourth in
    let second = number ++ third in
    let start = kind ++ codes ": line " in
    let defined =
    append_assoc (start ++ number ++ codes " column " ++ column ++ codes ": ") (words ++ name) (10 ∷ [])
    ∙ ap (λ rest. start ++ number ++ codes " column " ++ column ++ codes ": " ++ rest) (append_assoc words name (10 ∷ []))
    ∙ append_assoc (start ++ number ++ codes " column " ++ column) (codes ": ") end
    ∙ append_assoc (start ++ number ++ codes " column ") column fifth
    ∙ append_assoc (start ++ number) (codes " column ") fourth
    ∙ append_assoc start number third
    ∙ append_assoc kind (codes ": line ") second in
    ap (λ v. v.items) c.into_bytes.ensures.value
    ∙ c.in_ok-made.ensures.ok
    ∙ ap (λ rest. codes "armc: " ++ rest) (sym defined)
