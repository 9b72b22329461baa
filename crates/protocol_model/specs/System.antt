-- Systems as data, and when a system is valid.
use Rattle.std.specs.Prelude.{◌≡◌, ◌≢◌, ◌<◌, ◌≤◌, ℕ, IsTrue, List, None, Some, length, slice_get}
use Rattle.std.specs.Prelude.{AllPairs, sum_by}
use Rattle.protocol_syntax.specs.declared.limits.TheConstants.{MAX_SECTIONS, MAX_LETTERS, MAX_ROWS, MAX_RULES, MAX_ATOMS}
use Rattle.std.specs.List.{AllByRecursion}
use Rattle.protocol_syntax.specs.declared.protocol.Guard.{Guard as AnyGuard}
use Rattle.protocol_syntax.specs.declared.protocol.Move.{Move as AnyMove}
use Rattle.protocol_syntax.specs.MoveLetters.{letters_before_table, table_of, IsAllowedMove}
pub use Rattle.protocol_syntax.specs.MoveLetters.{belongs_to}
use Rattle.protocol_model.specs.Names.{IsName}
use Rattle.protocol_model.specs.declared.system.Section.{Section}
use Rattle.protocol_model.specs.declared.system.Pattern.{Pattern}
use Rattle.protocol_model.specs.declared.system.Row.{Row}
use Rattle.protocol_model.specs.declared.system.Rule.{Rule}

-- a guard and a move with the numbers of letters in their section
abbrev pub Guard : Type 0
Guard = AnyGuard ℕ

abbrev pub Move : Type 0
Move = AnyMove ℕ (List ℕ)

-- a protocol with its names replaced by numbers
pub record SystemData : Type 0 where
  pub name : List ℕ
  pub sections : List Section
  pub init : List Row
  pub rules : List Rule
  pub bad : List Row

abbrev pub data_of : List ℕ → List Section → List Row → List Rule → List Row → SystemData
data_of n s i r b = record { name = n; sections = s; init = i; rules = r; bad = b }

-- how many letters a section has
abbrev pub letter_count : Section → ℕ
letter_count section = length section.letters

-- how many letters the section of this number has; none where there is no such section
abbrev pub letter_count_at : List Section → ℕ → ℕ
letter_count_at sections k = elim (slice_get sections k) [ None ↦ 0 | Some section ↦ letter_count section ]

-- how many letters all sections have together
abbrev pub total_letters : List Section → ℕ
total_letters sections = sum_by letter_count sections

-- every letter is below the count
abbrev pub AllBelow : ℕ → List ℕ → Type 0
AllBelow count letters = AllByRecursion (λ a. a < count) letters

-- the section has a letter, no two of its letters have one name, and its name and theirs are names
pub record IsValidSection (section : Section) : Type 0 where
  pub named : IsName section.name
  pub letters_named : AllByRecursion IsName section.letters
  pub has_letter : 0 < letter_count section
  pub distinct : AllPairs (λ a b. a ≢ b) section.letters

-- a pattern of a section with so many letters: its letters are in range, and it has no more atoms than the limit
pub record IsValidPattern (count : ℕ) (pattern : Pattern) : Type 0 where
  pub in_range : AllByRecursion (λ atom. AllBelow count atom.letters) pattern.atoms
  pub limit : length pattern.atoms ≤ MAX_ATOMS

-- a row names existing sections, each once at most, with valid patterns
pub record IsValidRow (sections : List Section) (row : Row) : Type 0 where
  pub in_range : AllByRecursion (λ part. part.0 < length sections) row.parts
  pub patterns : AllByRecursion (λ part. IsValidPattern (letter_count_at sections part.0) part.1) row.parts
  pub distinct : AllPairs (λ a b. a.0 ≢ b.0) row.parts

-- the letters of a move are below the count, it keeps the limits, and its table has each letter on the left once at most
pub record IsValidMove (count : ℕ) (move : Move) : Type 0 where
  pub in_range : AllBelow count (letters_before_table (λ letters. letters) move)
  pub table_in_range : AllByRecursion (λ entry. (entry.0 < count) × (entry.1 < count)) (table_of move)
  pub table_distinct : AllPairs (λ a b. a.0 ≢ b.0) (table_of move)
  pub limits : IsAllowedMove move

-- the move of a rule's part belongs to its section's kind, and has letters of this section
pub record IsValidPart (sections : List Section) (part : ℕ × Move) : Type 0 where
  pub section : Section
  pub is_there : slice_get sections part.0 ≡ Some section
  pub of_kind : IsTrue (belongs_to part.1 section.kind)
  pub valid_move : IsValidMove (letter_count section) part.1

-- a rule has a name, and names existing sections, each once at most, with valid moves of their kinds
pub record IsValidRule (sections : List Section) (rule : Rule) : Type 0 where
  pub named : IsName rule.name
  pub parts : AllByRecursion (IsValidPart sections) rule.moves
  pub distinct : AllPairs (λ a b. a.0 ≢ b.0) rule.moves

-- the limits of the language: there is a section; sections, their letters together, rules, and rows of each kind are within their limits
pub record IsWithinLimits (s : SystemData) : Type 0 where
  pub some_section : 0 < length s.sections
  pub sections_limit : length s.sections ≤ MAX_SECTIONS
  pub letters_limit : total_letters s.sections ≤ MAX_LETTERS
  pub rules_limit : length s.rules ≤ MAX_RULES
  pub init_limit : length s.init ≤ MAX_ROWS
  pub bad_limit : length s.bad ≤ MAX_ROWS

-- a system keeps the limits; its numbers are in range; names of sections, of rules and of the letters of one section are distinct
pub record IsValid (s : SystemData) : Type 0 where
  pub named : IsName s.name
  pub limits : IsWithinLimits s
  pub each_section : AllByRecursion IsValidSection s.sections
  pub section_names : AllPairs (λ a b. a.name ≢ b.name) s.sections
  pub each_init : AllByRecursion (IsValidRow s.sections) s.init
  pub each_rule : AllByRecursion (IsValidRule s.sections) s.rules
  pub rule_names : AllPairs (λ a b. a.name ≢ b.name) s.rules
  pub each_bad : AllByRecursion (IsValidRow s.sections) s.bad
