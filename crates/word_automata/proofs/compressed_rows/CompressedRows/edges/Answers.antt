use Rattle.std.proofs.Common.{◌<◌, length, take, drop, ap, sym, ◌∙◌, arith}
use Rattle.word_automata.specs.Path.{edges_of}
use Rattle.word_automata.proofs.RowsInOrder.{length-nodes, edges_of-nodes}
use Rattle.word_automata.proofs.compressed_rows.CompressedRows.edges.Goals as goal

pub index-row-requires : goal.index-row-requires
index-row-requires g c = omega (arith, length-nodes c.self.inside.rows.items c.self.inside.edges.items, ap (λ ss. length ss) c.self.view_is, c.requires)

pub returns : goal.returns
returns g c =
    let within : c.args.state < length c.self.inside.rows.items =
    omega (arith, length-nodes c.self.inside.rows.items c.self.inside.edges.items, ap (λ ss. length ss) c.self.view_is, c.requires) in
    c.part.ensures
    ∙ ap (λ edges. take c.index-row.result.now.size (drop c.index-row.result.now.start edges)) c.deref.ensures.value
    ∙ ap (λ row. take row.size (drop row.start c.self.inside.edges.items)) c.index-row.ensures
    ∙ sym (edges_of-nodes c.self.inside.rows.items c.self.inside.edges.items c.args.state c.index-row.result.now within)
    ∙ ap (λ ss. edges_of ss c.args.state) c.self.view_is
