use Rattle.protocol_syntax.specs.Grammar.{row}
use Rattle.protocol_syntax.proofs.Together.{source_of, err_from_is_err_and, head-fails, sections-fail, tail-fails, all_read}
use Rattle.protocol_syntax.proofs.whole.WholeProtocolForm.read.Goals as goal

pub returns-in_err-head : goal.returns-in_err-head
returns-in_err-head c =
    let p = err_from_is_err_and c.from_residual.result c.from_residual.ensures.1 in
    rw (p.1, p.2) (head-fails (source_of c.args.source.now.text.now c.args.source.now.tokens.now) _ _ c.in_err-head.ensures)

pub returns-in_err-sections : goal.returns-in_err-sections
returns-in_err-sections c =
    let p = err_from_is_err_and c.from_residual-in_err-sections.result c.from_residual-in_err-sections.ensures.1 in
    rw (p.1, p.2) (sections-fail (source_of c.args.source.now.text.now c.args.source.now.tokens.now) _ _ _ c.in_ok-head.ensures _ c.in_err-sections.ensures)

pub returns-in_err-tail : goal.returns-in_err-tail
unfolding row
returns-in_err-tail c =
    let p = err_from_is_err_and c.from_residual-in_err-tail.result c.from_residual-in_err-tail.ensures.1 in
    rw (p.1, p.2) (tail-fails (source_of c.args.source.now.text.now c.args.source.now.tokens.now) _ _ _ c.in_ok-head.ensures _ _ c.in_ok-sections.ensures _ c.in_err-tail.ensures)

pub returns : goal.returns
unfolding row
returns c = all_read (source_of c.args.source.now.text.now c.args.source.now.tokens.now) _ _ _ c.in_ok-head.ensures _ _ c.in_ok-sections.ensures _ _ c.in_ok-tail.ensures
