-- Lists of sections, and words that begin with them.
use Rattle.std.specs.Prelude.{◌≡◌, ◌==◌, ◌&&◌, ◌+◌, ℕ, Bool, true, List, [], ◌∷◌, ◌++◌, Option, None, Some, IsTrue, if◌then◌else◌}
use Rattle.protocol_syntax.specs.declared.protocol.Many.{Many}
use Rattle.protocol_syntax.specs.declared.protocol.Many.TheVariants.{One, Star, Plus}
use Rattle.protocol_model.specs.declared.system.Section.{Section}
use Rattle.protocol_model.specs.declared.system.Pattern.{Pattern}
use Rattle.protocol_model.specs.declared.system.Row.{Row}
use Rattle.protocol_model.specs.declared.system.Configuration.{Configuration}
use Rattle.protocol_model.specs.System.{SystemData, letter_count, IsValidPattern}
use Rattle.protocol_model.specs.Patterns.{atoms_match, lists_fit, some_row_matches}
use Rattle.protocol_model.specs.Words.{raised, raised_lists, joined, word_of}
use Rattle.section_patterns.specs.private.Languages.{BeginsWithLetter, BeginsWithLetters}

-- the word is letters, as many as an atom says, and then a word of the language
abbrev pub BeginsWithAtom : Many → List ℕ → (List ℕ → Type 0) → List ℕ → Type 0
BeginsWithAtom One letters language w = BeginsWithLetter letters language w
BeginsWithAtom Star letters language w = BeginsWithLetters letters language w
BeginsWithAtom Plus letters language w = BeginsWithLetter letters (BeginsWithLetters letters language) w

-- the word is a list that passes the test, each letter raised by the offset, and then a word of the language
pub record BeginsWithList (test : List ℕ → Bool) (offset : ℕ) (language : List ℕ → Type 0) (w : List ℕ) : Type 0 where
  pub list : List ℕ
  pub rest : List ℕ
  pub matches : IsTrue (test list)
  pub begins : w ≡ raised offset list ++ rest
  pub accepted : language rest

-- the word is one of the language, behind a separator where there are later sections
abbrev pub IsBehind : ℕ → List Section → (List ℕ → Type 0) → List ℕ → Type 0
IsBehind separator [] language w = language w
IsBehind separator (section ∷ sections) language w = BeginsWithLetter (separator ∷ []) language w

-- the pattern of the section of this number, if the row names the section
abbrev pub pattern_for : List (ℕ × Pattern) → ℕ → Option Pattern
pattern_for [] k = None
pattern_for (part ∷ parts) k = if part.0 == k then Some part.1 else pattern_for parts k

-- whether the pattern, if there is one, matches the list
abbrev pub part_matches : Option Pattern → List ℕ → Bool
part_matches None list = true
part_matches (Some pattern) list = atoms_match pattern.atoms list

-- whether the row matches the lists of the sections from this number on
abbrev pub parts_match : List (ℕ × Pattern) → ℕ → List (List ℕ) → Bool
parts_match parts number [] = true
parts_match parts number (list ∷ lists) = part_matches (pattern_for parts number) list && parts_match parts (number + 1) lists

-- the word is that of lists of the sections, the first of which has this number and offset, and the row matches them
pub record IsRest (parts : List (ℕ × Pattern)) (number offset separator : ℕ) (sections : List Section) (w : List ℕ) : Type 0 where
  pub lists : List (List ℕ)
  pub fitting : IsTrue (lists_fit sections lists)
  pub matches : IsTrue (parts_match parts number lists)
  pub spelled : w ≡ joined separator (raised_lists offset sections lists)

-- the pattern, if there is one, is a valid one of the section
abbrev pub HasPatternOf : Option Pattern → Section → Type 0
HasPatternOf None section = Unit {0}
HasPatternOf (Some pattern) section = IsValidPattern (letter_count section) pattern

-- each pattern of the row, from the section of this number on, is a valid one of its section
abbrev pub HasPatternsOf : List (ℕ × Pattern) → ℕ → List Section → Type 0
HasPatternsOf parts number [] = Unit {0}
HasPatternsOf parts number (section ∷ sections) = HasPatternOf (pattern_for parts number) section × HasPatternsOf parts (number + 1) sections

-- the word is that of a configuration that some row matches
abbrev pub IsWordOfRows : SystemData → List Row → List ℕ → Type 0
IsWordOfRows s rows w = (c : Configuration) × IsTrue (some_row_matches s rows c) × (w ≡ word_of s c)
