use Rattle.std.proofs.Common.{◌≡◌, ◌++◌, ◌∙◌, ap, arith, flat_map, length}
use Rattle.std.specs.List.{range_with_len}
use Rattle.certificate.specs.SafeText.{lines_text}
use Rattle.certificate_writing.specs.Writing.{lines_from}
use Rattle.certificate_writing.specs.private.WritingParts.{named_text_from}
use Rattle.certificate_writing.proofs.Ranges.{pieces_more}
use Rattle.certificate_writing.proofs.writing.push_edges.Goals as goal

pub states-preserved : goal.states-preserved
states-preserved c =
    let s = c.args.alphabet.now in
    let f = named_text_from s c.args.proof.now in
    let i = c.states.state in
    c.in_ok-push_edges_from.ensures
    ∙ ap (λ edges. c.states.text.items ++ lines_text s (lines_from i edges)) c.edges_from.ensures.edges
    ∙ ap (λ text. text ++ f i) c.states.invariant
    ∙ pieces_more f c.args.text.now.items i

pub returns : goal.returns
returns c =
    let end : c.states.state ≡ length c.args.proof.now.states =
    omega (arith, c.states-test.false, c.states.auto.state-end, c.states-state-end.ensures.count) in
    c.states.invariant
    ∙ ap (λ n. c.args.text.now.items ++ flat_map (named_text_from c.args.alphabet.now c.args.proof.now) (range_with_len 0 n)) end
