-- A protocol with its names replaced by numbers. A name's number is its first index in its list of names.
use Rattle.std.specs.Prelude.{ℕ, List, [], ◌∷◌, Option, map, length, slice_get}
use Rattle.std.specs.List.{position_or_len, range_with_len}
use Rattle.std.specs.Option.{option_map_or}
use Rattle.std.specs.Str.{bytes_eq}
use Rattle.forms.specs.declared.name.Name.{Name}
use Rattle.protocol_syntax.specs.declared.protocol.Protocol.{Protocol}
use Rattle.protocol_syntax.specs.declared.protocol.SectionText.{SectionText}
use Rattle.protocol_syntax.specs.declared.protocol.RowText.{RowText}
use Rattle.protocol_syntax.specs.declared.protocol.PartText.{PartText}
use Rattle.protocol_syntax.specs.declared.protocol.AtomText.{AtomText}
use Rattle.protocol_syntax.specs.declared.protocol.BaseText.{BaseText}
use Rattle.protocol_syntax.specs.declared.protocol.BaseText.TheVariants.{Letter, Set as SetText, Any}
use Rattle.protocol_syntax.specs.declared.protocol.MoveText.{MoveText}
use Rattle.protocol_syntax.specs.declared.protocol.RuleText.{RuleText}
use Rattle.protocol_syntax.specs.MoveLetters.{MoveBody, renamed}
use Rattle.protocol_model.specs.declared.system.Section.{Section}
use Rattle.protocol_model.specs.declared.system.Atom.{Atom}
use Rattle.protocol_model.specs.declared.system.Pattern.{Pattern}
use Rattle.protocol_model.specs.declared.system.Row.{Row}
use Rattle.protocol_model.specs.declared.system.Rule.{Rule}
use Rattle.protocol_model.specs.System.{Move, SystemData, data_of}

-- the texts of names
abbrev pub texts_of : List Name → List (List ℕ)
texts_of names = map (λ name. name.text) names

-- the names of sections
abbrev pub section_names : List SectionText → List (List ℕ)
section_names sections = map (λ section. section.name.text) sections

-- the number of a name in a list of names; the length of the list where the name is not there
abbrev pub number_of : List (List ℕ) → Name → ℕ
number_of names name = position_or_len (bytes_eq name.text) names

-- the section of this name
abbrev pub section_named : List SectionText → Name → Option SectionText
section_named sections name = slice_get sections (number_of (section_names sections) name)

-- the letters of the section of this name; none where there is no such section
abbrev pub letters_named : List SectionText → Name → List (List ℕ)
letters_named sections name = option_map_or (λ section. texts_of section.letters) (section_named sections name) []

-- a section as written in the text
abbrev pub section_of : SectionText → Section
section_of section = record { name = section.name.text; kind = section.kind; letters = texts_of section.letters }

-- the letters of an atom, or of those that may be lost: one, those of a set, or all letters of the section
abbrev pub base_numbers : List (List ℕ) → BaseText → List ℕ
base_numbers letters (Letter name) = number_of letters name ∷ []
base_numbers letters (SetText names) = map (number_of letters) names
base_numbers letters Any = range_with_len 0 (length letters)

abbrev pub atom_of : List (List ℕ) → AtomText → Atom
atom_of letters atom = record { letters = base_numbers letters atom.base; many = atom.many }

abbrev pub part_of : List SectionText → PartText → ℕ × Pattern
part_of sections part = (
  number_of (section_names sections) part.section,
  record { atoms = map (atom_of (letters_named sections part.section)) part.atoms },
)

abbrev pub row_of : List SectionText → RowText → Row
row_of sections row = record { parts = map (part_of sections) row.parts }

-- a move, where these are the letters of its section
abbrev pub move_of_text : List (List ℕ) → MoveBody → Move
move_of_text letters body = renamed (number_of letters) (base_numbers letters) body

abbrev pub step_of : List SectionText → MoveText → ℕ × Move
step_of sections step =
    (number_of (section_names sections) step.section, move_of_text (letters_named sections step.section) step.body)

abbrev pub rule_of : List SectionText → RuleText → Rule
rule_of sections rule = record { name = rule.name.text; moves = map (step_of sections) rule.moves }

-- the system of a protocol
abbrev pub system_of : Protocol → SystemData
system_of p =
    data_of p.name.text (map section_of p.sections) (map (row_of p.sections) p.init) (map (rule_of p.sections) p.rules)
    (map (row_of p.sections) p.bad)
