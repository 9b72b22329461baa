-- The first fault of a protocol. Its names are tested in the order of the text.
use Rattle.std.specs.Prelude.{ℕ, Bool, false, List, [], ◌∷◌, ◌++◌, Option, None, Some, map, if◌then◌else◌}
use Rattle.std.specs.List.{list_any}
use Rattle.std.specs.Option.{option_or, option_map_or}
use Rattle.std.specs.Str.{bytes_eq}
use Rattle.forms.specs.declared.name.Name.{Name}
use Rattle.protocol_syntax.specs.declared.protocol.Protocol.{Protocol}
use Rattle.protocol_syntax.specs.declared.protocol.SectionText.{SectionText}
use Rattle.protocol_syntax.specs.declared.protocol.RowText.{RowText}
use Rattle.protocol_syntax.specs.declared.protocol.PartText.{PartText}
use Rattle.protocol_syntax.specs.declared.protocol.BaseText.{BaseText}
use Rattle.protocol_syntax.specs.declared.protocol.MoveText.{MoveText}
use Rattle.protocol_syntax.specs.declared.protocol.RuleText.{RuleText}
use Rattle.protocol_syntax.specs.MoveLetters.{MoveBody, base_names, letters_before_table, table_of, belongs_to}
use Rattle.protocol_model.specs.declared.fault.ModelFault.{ModelFault}
use Rattle.protocol_model.specs.declared.fault.ModelFault.TheVariants.{Duplicate, Unknown, TouchedTwice, WrongKind}
use Rattle.protocol_model.specs.Numbering.{texts_of, section_names, section_named, letters_named}

-- the first fault of the items, each of which is tested with the items before it
abbrev pub first_fault_of : {X : Type 0} → (List X → X → Option ModelFault) → List X → List X → Option ModelFault
first_fault_of fault earlier [] = None
first_fault_of fault earlier (x ∷ xs) = option_or (fault earlier x) (first_fault_of fault (earlier ++ x ∷ []) xs)

-- whether the name is in the list
abbrev pub is_among : List (List ℕ) → Name → Bool
is_among names name = list_any (bytes_eq name.text) names

abbrev pub duplicate : List (List ℕ) → Name → Option ModelFault
duplicate earlier name = if is_among earlier name then Some (Duplicate name) else None

abbrev pub touched_twice : List (List ℕ) → Name → Option ModelFault
touched_twice earlier name = if is_among earlier name then Some (TouchedTwice name) else None

abbrev pub unknown : List (List ℕ) → Name → Option ModelFault
unknown names name = if is_among names name then None else Some (Unknown name)

-- a section: its name is not that of an earlier one, and its letters are distinct
abbrev pub section_fault : List SectionText → SectionText → Option ModelFault
section_fault earlier section =
    option_or (duplicate (section_names earlier) section.name)
    (first_fault_of (λ before. duplicate (texts_of before)) [] section.letters)

-- a list of letters of a section
abbrev pub letters_fault : List (List ℕ) → List Name → Option ModelFault
letters_fault letters names = first_fault_of (λ _. unknown letters) [] names

abbrev pub base_fault : List (List ℕ) → BaseText → Option ModelFault
base_fault letters base = letters_fault letters (base_names base)

-- a part of a row: its section is there and is not that of an earlier part, and its letters are letters of the section
abbrev pub part_fault : List SectionText → List PartText → PartText → Option ModelFault
part_fault sections earlier part =
    option_or (unknown (section_names sections) part.section)
    (option_or (duplicate (map (λ before. before.section.text) earlier) part.section)
    (first_fault_of (λ _ atom. base_fault (letters_named sections part.section) atom.base) [] part.atoms))

abbrev pub row_fault : List SectionText → RowText → Option ModelFault
row_fault sections row = first_fault_of (part_fault sections) [] row.parts

-- an entry of a table: its left letter is there and is not that of an earlier entry, and its right letter is there
abbrev pub entry_fault : List (List ℕ) → List (Name × Name) → Name × Name → Option ModelFault
entry_fault letters earlier entry =
    option_or (unknown letters entry.0)
    (option_or (duplicate (map (λ before. before.0.text) earlier) entry.0) (unknown letters entry.1))

-- a move: its letters are there, in the order of the text, and its table comes last
abbrev pub body_fault : List (List ℕ) → MoveBody → Option ModelFault
body_fault letters body =
    option_or (letters_fault letters (letters_before_table base_names body)) (first_fault_of (entry_fault letters) [] (table_of body))

abbrev pub wrong_kind : List SectionText → MoveText → Option ModelFault
wrong_kind sections step =
    if option_map_or (λ section. belongs_to step.body section.kind) (section_named sections step.section) false
    then None
    else Some (WrongKind step.section)

-- a step of a rule: its section is there, is not that of an earlier step, and is of a kind to which the move belongs; its letters are letters of the section
abbrev pub step_fault : List SectionText → List MoveText → MoveText → Option ModelFault
step_fault sections earlier step =
    option_or (unknown (section_names sections) step.section)
    (option_or (touched_twice (map (λ before. before.section.text) earlier) step.section)
    (option_or (wrong_kind sections step) (body_fault (letters_named sections step.section) step.body)))

-- a rule: its name is not that of an earlier one
abbrev pub rule_fault : List SectionText → List RuleText → RuleText → Option ModelFault
rule_fault sections earlier rule =
    option_or (duplicate (map (λ before. before.name.text) earlier) rule.name)
    (first_fault_of (step_fault sections) [] rule.moves)

-- the first fault of a protocol
abbrev pub first_fault : Protocol → Option ModelFault
first_fault p =
    option_or (first_fault_of section_fault [] p.sections)
    (option_or (first_fault_of (λ _. row_fault p.sections) [] p.init)
    (option_or (first_fault_of (rule_fault p.sections) [] p.rules)
    (first_fault_of (λ _. row_fault p.sections) [] p.bad)))
