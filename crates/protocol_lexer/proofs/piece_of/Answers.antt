use Rattle.std.proofs.Common.{rules, ◌≡◌}
use Rattle.protocol_lexer.specs.declared.TokenKind.TheVariants.{Word}
use Rattle.protocol_lexer.specs.Piece.{piece, gap, token_of}
use Rattle.protocol_lexer.proofs.Taking.{within}
use Rattle.protocol_lexer.proofs.piece_of.Goals as goal

pub returns-then-first-eq35-clause-within : goal.returns-then-first-eq35-clause-within
unfolding piece
returns-then-first-eq35-clause-within c =
    let e : gap c.comment_length.result ≡ piece c.args.bytes.now = search rules in
    within c.args.bytes.now (gap c.comment_length.result) e

pub returns-then-is_word_byte-clause-within : goal.returns-then-is_word_byte-clause-within
unfolding piece
returns-then-is_word_byte-clause-within c =
    let e : token_of Word c.word_length.result ≡ piece c.args.bytes.now = search rules in
    within c.args.bytes.now (token_of Word c.word_length.result) e
