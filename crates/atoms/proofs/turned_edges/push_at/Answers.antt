use Rattle.std.proofs.Common.{◌<◌, ◌++◌, ◌∷◌, [], length, ap, ◌∙◌, arith}
use Rattle.std.proofs.lemmas.List.{get_or_default}
use Rattle.atoms.proofs.Turning.{adds_entry, adds_entry_past}
use Rattle.atoms.proofs.turned_edges.push_at.Goals as goal

pub returns-then-state-len : goal.returns-then-state-len
returns-then-state-len c = adds_entry_past c.args.into.now.items c.args.state c.args.entry (let t = c.if-state-len.true in let e = c.len.ensures in omega arith)

pub returns : goal.returns
returns c =
    let within = (let t = c.if-state-len.false in let e = c.len.ensures in let r : c.args.state < length c.args.into.now.items = omega arith in r) in
    adds_entry c.args.into.now.items c.args.state c.args.entry c.push.new.self within
    (c.in_ok-push.ensures ∙ ap (λ xs. xs ++ c.args.entry ∷ []) (c.index_mut-list.ensures.value ∙ get_or_default c.args.into.now.items c.args.state c.index_mut-list.result.now [] within))
