use Rattle.protocol_syntax.proofs.Together.{entry_as, given_alike, source_of}
use Rattle.protocol_syntax.proofs.moves.EntryForm.read.Goals as goal

pub returns : goal.returns
returns c = given_alike entry_as (source_of c.args.source.now.text.now c.args.source.now.tokens.now) _ _ _ c.read.ensures
