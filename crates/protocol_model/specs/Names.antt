-- What a name is.
use Rattle.std.specs.Prelude.{◌&&◌, ℕ, Bool, List, length, nat_lt, nat_le, is_none, IsTrue}
use Rattle.std.specs.List.{list_all}
use Rattle.protocol_lexer.specs.Piece.{is_word_byte}
use Rattle.forms.specs.declared.name.TheConstants.{MAX_NAME_BYTES}
use Rattle.forms.specs.Symbol.{keyword_of}

-- whether the text is a word of 1 to MAX_NAME_BYTES bytes, each a letter of ASCII, a digit or an underscore
abbrev pub is_word : List ℕ → Bool
is_word text = nat_lt 0 (length text) && nat_le (length text) MAX_NAME_BYTES && list_all is_word_byte text

abbrev pub IsWord : List ℕ → Type 0
IsWord text = IsTrue (is_word text)

-- whether the text is a name: such a word that is not reserved
abbrev pub is_name : List ℕ → Bool
is_name text = is_word text && is_none (keyword_of text)

abbrev pub IsName : List ℕ → Type 0
IsName text = IsTrue (is_name text)
