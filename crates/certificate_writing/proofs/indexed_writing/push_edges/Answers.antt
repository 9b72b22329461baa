use Rattle.std.proofs.Common.{◌++◌, ◌∙◌, ap}
use Rattle.certificate_writing.specs.private.IndexedWritingParts.{text_from}
use Rattle.certificate_writing.proofs.Ranges.{pieces_more}
use Rattle.certificate_writing.proofs.indexed_writing.push_edges.Goals as goal

pub states-preserved : goal.states-preserved
states-preserved c =
    let f = text_from c.args.indices.now c.args.proof.now in
    let i = c.states.state in
    c.in_ok-push_edges_from.ensures ∙ ap (λ text. text ++ f i) c.states.invariant ∙ pieces_more f c.args.text.now.items i
