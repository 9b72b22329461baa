use Rattle.protocol_syntax.proofs.Together.{part_as, says_made, fails_too, source_of, err_from_is_err_and}
use Rattle.protocol_syntax.proofs.rows.PartForm.read.Goals as goal

pub returns-in_err-parts : goal.returns-in_err-parts
returns-in_err-parts c =
    let p = err_from_is_err_and c.from_residual.result c.from_residual.ensures.1 in
    rw (p.1, p.2) (fails_too part_as (source_of c.args.source.now.text.now c.args.source.now.tokens.now) _ _ c.in_err-parts.ensures)

pub returns : goal.returns
returns c = says_made part_as (source_of c.args.source.now.text.now c.args.source.now.tokens.now) _ _ _ c.in_ok-parts.ensures
