-- The tokens of one piece.
use Rattle.std.specs.Prelude.{ℕ, ◌+◌, List, [], ◌∷◌, Some, None}
use Rattle.protocol_lexer.specs.declared.Place.{Place}
use Rattle.protocol_lexer.specs.declared.Token.{Token}
use Rattle.protocol_lexer.specs.declared.Piece.{Piece}

-- the token that a piece at this offset and place is, in a list of its own; no token at white space or a comment
abbrev pub tokens_of_piece : Piece → ℕ → Place → List Token
tokens_of_piece found offset place = elim found.kind
    [ None ↦ [] | Some kind ↦ record { kind = kind; start = offset; end = offset + found.length; place = place } ∷ [] ]
