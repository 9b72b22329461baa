-- Words, and the letters of a system's automata by their names.
use Rattle.std.specs.Prelude.{◌&&◌, ℕ, Bool, List, [], ◌∷◌, ◌++◌, get_or, Option, Some, None, length, map, nat_lt, is_none, codes, flat_map, if◌then◌else◌, ⊤}
use Rattle.std.specs.List.{list_all}
use Rattle.protocol_lexer.specs.Piece.{is_word_byte}
use Rattle.forms.specs.Symbol.{keyword_of}
use Rattle.protocol_model.specs.declared.system.Section.{Section}
use Rattle.protocol_model.specs.Names.{is_word}
use Rattle.protocol_model.specs.System.{SystemData}
use Rattle.lines.specs.Grammar.{Line, valued, just, cut, means, numbered}

-- a word, reserved or not
abbrev pub word_value : List ℕ → Option ⊤
word_value bytes = if is_word bytes then Some tt else None

abbrev pub a_word : Line ⊤
a_word = valued word_value

-- whether the text is a name of any length: bytes of words, and no reserved word
abbrev pub is_name_of_any_length : List ℕ → Bool
is_name_of_any_length text = nat_lt 0 (length text) && list_all is_word_byte text && is_none (keyword_of text)

abbrev pub name_value : List ℕ → Option ⊤
name_value bytes = if is_name_of_any_length bytes then Some tt else None

abbrev pub a_name : Line ⊤
a_name = valued name_value

-- the layout of a letter: `|`, or two words with a dot between them
abbrev pub letter_layout : Line ⊤
letter_layout = just (codes "|") tt (means (λ (words : ⊤ × ⊤). tt) (cut 46 a_word a_word))

-- the names of a section's letters among those of the system's automata, in their order
abbrev pub section_texts : Section → List (List ℕ)
section_texts section = map (λ letter. section.name ++ codes "." ++ letter) section.letters

-- the names of all letters, in the order of their numbers
abbrev pub letter_texts : List Section → List (List ℕ)
letter_texts sections = flat_map section_texts sections ++ codes "|" ∷ []

-- the name of the letter of this number
abbrev pub letter_text : List Section → ℕ → List ℕ
letter_text sections a = get_or (letter_texts sections) a []

-- a letter of the system's automata; the number of all letters stands for one that is not there
abbrev pub letter : SystemData → Line ℕ
letter s = numbered (letter_texts s.sections) letter_layout
