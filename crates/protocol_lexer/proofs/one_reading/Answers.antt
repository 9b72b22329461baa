use Rattle.protocol_lexer.proofs.Taking.{AreTokens-one, IsBadByte-one, tokens-or-bad_byte, every_text}
use Rattle.protocol_lexer.proofs.one_reading.Goals as goal

pub returns : goal.returns
returns c = record { tokens = AreTokens-one; bad_byte = IsBadByte-one; either = tokens-or-bad_byte; every = every_text }
