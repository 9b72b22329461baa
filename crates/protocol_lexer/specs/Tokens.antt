-- The tokens of a text.
use Rattle.std.specs.Prelude.{◌≡◌, ◌≢◌, ◌⊎◌, ◌<◌, ◌≤◌, ℕ, ◌+◌, List, [], ◌∷◌, Some, None, take, drop, length, true}
use Rattle.std.specs.List.{slice_range, list_all, AllByRecursion}
use Rattle.protocol_lexer.specs.declared.Place.{Place}
use Rattle.protocol_lexer.specs.declared.Token.{Token}
use Rattle.protocol_lexer.specs.declared.TokenKind.{TokenKind}
use Rattle.protocol_lexer.specs.Place.{start_place, place_after}
use Rattle.protocol_lexer.specs.declared.TokenKind.TheVariants.{Word}
use Rattle.protocol_lexer.specs.Piece.{piece, is_word_byte}

-- Taking the bytes that are left from the left gives these tokens and leaves the rest: at each point the white space,
-- comment or token that stands there is taken. The first offset and place are those of the bytes, the last those of the rest.
pub data Takes : List ℕ → ℕ → Place → List Token → List ℕ → Place → Type 0 where
  nothing : (bytes : List ℕ) (offset : ℕ) (place : Place) → Takes bytes offset place [] bytes place
  after_gap : (bytes : List ℕ) (offset : ℕ) (place : Place) (tokens : List Token) (rest : List ℕ) (end : Place) (n : ℕ)
      → piece bytes ≡ Some (record { kind = None; length = n })
      → Takes (drop n bytes) (offset + n) (place_after place (take n bytes)) tokens rest end
      → Takes bytes offset place tokens rest end
  after_token : (bytes : List ℕ) (offset : ℕ) (place : Place) (token : Token) (tokens : List Token) (rest : List ℕ) (end : Place)
      (n : ℕ) (kind : TokenKind)
      → piece bytes ≡ Some (record { kind = Some kind; length = n })
      → token ≡ record { kind = kind; start = offset; end = offset + n; place = place }
      → Takes (drop n bytes) (offset + n) (place_after place (take n bytes)) tokens rest end
      → Takes bytes offset place (token ∷ tokens) rest end

-- the tokens of a text: taking them leaves nothing
abbrev pub AreTokens : List ℕ → List Token → Type 0
AreTokens text tokens = (end : Place) × Takes text 0 start_place tokens [] end

-- the place of the first byte of a text that begins no token, white space or comment: taking what stands before it leads there
abbrev pub IsBadByte : List ℕ → Place → Type 0
IsBadByte text place =
    (tokens : List Token) × (rest : List ℕ) × Takes text 0 start_place tokens rest place × (rest ≢ []) × (piece rest ≡ None)

-- how a token lies in its text: it has some bytes, all of them of the text, and those of a word are word bytes
pub record LiesIn (text : List ℕ) (token : Token) : Type 0 where
  pub some : token.start < token.end
  pub within : token.end ≤ length text
  pub word : token.kind ≡ Word → list_all is_word_byte (slice_range text token.start token.end) ≡ true

-- each token begins at this offset or after it, and where the token before it ends or later
abbrev pub AreInOrder : ℕ → List Token → Type 0
AreInOrder offset [] = Unit {0}
AreInOrder offset (token ∷ tokens) = (offset ≤ token.start) × AreInOrder token.end tokens

-- the tokens lie in the text, one after the other
pub record LieInOrder (text : List ℕ) (tokens : List Token) : Type 0 where
  pub each : AllByRecursion (LiesIn text) tokens
  pub in_order : AreInOrder 0 tokens

-- a text has one list of tokens at most
abbrev pub TokensAreDetermined : Type 0
TokensAreDetermined = (text : List ℕ) (one other : List Token) → AreTokens text one → AreTokens text other → one ≡ other

-- a text has one bad byte at most that is the first
abbrev pub BadByteIsDetermined : Type 0
BadByteIsDetermined = (text : List ℕ) (one other : Place) → IsBadByte text one → IsBadByte text other → one ≡ other

-- no text has both a list of tokens and a bad byte
abbrev pub TokensExcludeBadByte : Type 0
TokensExcludeBadByte = (text : List ℕ) (tokens : List Token) (place : Place) → AreTokens text tokens → IsBadByte text place → ⊥

-- each text has a list of tokens or a bad byte
abbrev pub TokensOrBadByte : Type 0
TokensOrBadByte = (text : List ℕ) → ((tokens : List Token) × AreTokens text tokens) ⊎ ((place : Place) × IsBadByte text place)
