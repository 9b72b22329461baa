-- The text is the layout, and so it says the protocol again.
use Rattle.std.proofs.Common.{◌≡◌, ◌++◌, ℕ, List, sym, ap, subst, ◌∙◌}
use Rattle.protocol_layout.specs.Layout.{layout}
use Rattle.protocol_layout.specs.Places.{IsReadBack}
use Rattle.protocol_layout.proofs.ReadBack.{layout_says}
use Rattle.protocol_layout.proofs.print.Goals as goal

pub returns-clause-read_back : goal.returns-clause-read_back
returns-clause-read_back c =
    let is : c.write_items.new.out.items ≡ layout c.args.protocol.now =
    c.in_ok-write_items.ensures ∙ ap (λ (l : List ℕ). l ++ layout c.args.protocol.now) c.new-text.ensures.items in
    subst (λ (text : List ℕ). IsReadBack text c.args.protocol.now) (sym is) (λ source h. layout_says source c.args.protocol.now h)
