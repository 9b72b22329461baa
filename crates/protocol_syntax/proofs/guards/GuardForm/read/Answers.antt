use Rattle.protocol_syntax.specs.Grammar.{quantifier, region}
use Rattle.protocol_syntax.proofs.Together.{guard_as, says_made, fails_too, source_of, err_from_is_err_and}
use Rattle.protocol_syntax.proofs.guards.GuardForm.read.Goals as goal

pub returns-in_err-parts : goal.returns-in_err-parts
unfolding quantifier region
returns-in_err-parts c =
    let p = err_from_is_err_and c.from_residual.result c.from_residual.ensures.1 in
    rw (p.1, p.2) (fails_too guard_as (source_of c.args.source.now.text.now c.args.source.now.tokens.now) _ _ c.in_err-parts.ensures)

pub returns : goal.returns
unfolding quantifier region
returns c = says_made guard_as (source_of c.args.source.now.text.now c.args.source.now.tokens.now) _ _ _ c.in_ok-parts.ensures
