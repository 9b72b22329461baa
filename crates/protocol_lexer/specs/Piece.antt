-- What stands at a point of a text: white space, a comment or a token.
use Rattle.std.specs.Prelude.{ℕ, ◌==◌, ◌||◌, ◌&&◌, nat_le, Bool, not, List, [], ◌∷◌, Option, Some, None, if◌then◌else◌}
use Rattle.std.specs.List.{prefix_len}
use Rattle.protocol_lexer.specs.declared.TokenKind.{TokenKind}
use Rattle.protocol_lexer.specs.declared.TokenKind.TheVariants.{Word, BraceLeft, BraceRight, Colon, Semicolon, Star, Plus, Arrow}
use Rattle.protocol_lexer.specs.declared.Piece.{Piece}

-- a space, a tab, a line feed or a carriage return
abbrev pub is_white_space : ℕ → Bool
is_white_space b = (b == 32) || (b == 9) || (b == 10) || (b == 13)

-- a letter of ASCII, a digit or `_`
abbrev pub is_word_byte : ℕ → Bool
is_word_byte b =
    (nat_le 65 b && nat_le b 90) || (nat_le 97 b && nat_le b 122) || (nat_le 48 b && nat_le b 57) || (b == 95)

-- whether a comment goes on with this byte: up to a line feed
abbrev pub is_comment_byte : ℕ → Bool
is_comment_byte b = not (b == 10)

-- the tokens of one byte other than words: `{`, `}`, `:`, `;`, `*` and `+`
abbrev pub kind_of_byte : ℕ → Option TokenKind
kind_of_byte b =
    if b == 123 then Some BraceLeft
    else (if b == 125 then Some BraceRight
    else (if b == 58 then Some Colon
    else (if b == 59 then Some Semicolon
    else (if b == 42 then Some Star
    else (if b == 43 then Some Plus else None)))))

-- white space or a comment of so many bytes
abbrev pub gap : ℕ → Option Piece
gap n = Some (record { kind = None; length = n })

-- a token of so many bytes
abbrev pub token_of : TokenKind → ℕ → Option Piece
token_of kind n = Some (record { kind = Some kind; length = n })

-- `->`, at a `-` with these bytes after it
abbrev pub arrow : List ℕ → Option Piece
arrow [] = None
arrow (b ∷ bytes) = if b == 62 then token_of Arrow 2 else None

-- a token of one byte, if the byte is one
abbrev pub byte_token : Option TokenKind → Option Piece
byte_token None = None
byte_token (Some kind) = token_of kind 1

-- the white space, comment (from a `#` up to a line feed or the end) or token at the front of some bytes, a word
-- as long as possible; none where the first byte begins none of the three
unfoldable pub piece : List ℕ → Option Piece
piece [] = None
piece (b ∷ bytes) =
    if is_white_space b then gap 1
    else (if b == 35 then gap (prefix_len is_comment_byte (b ∷ bytes))
    else (if is_word_byte b then token_of Word (prefix_len is_word_byte (b ∷ bytes))
    else (if b == 45 then arrow bytes else byte_token (kind_of_byte b))))
