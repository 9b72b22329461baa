-- The properties that blocks of a text say of a system, and their first fault.
use Rattle.std.specs.Prelude.{ℕ, ◌≤◌, List, [], ◌∷◌, Option, map, not, length}
use Rattle.std.specs.List.{AllByRecursion, filter}
use Rattle.std.specs.Str.{bytes_eq}
use Rattle.forms.specs.declared.name.Name.{Name}
use Rattle.protocol_syntax.specs.declared.limits.TheConstants.{MAX_ROWS}
use Rattle.protocol_syntax.specs.declared.protocol.RowText.{RowText}
use Rattle.protocol_model.specs.declared.fault.ModelFault.{ModelFault}
use Rattle.protocol_model.specs.declared.system.Row.{Row}
use Rattle.protocol_model.specs.Allowed.{IsAllowedRow}
use Rattle.protocol_model.specs.Faults.{row_fault, first_fault_of}
use Rattle.protocol_model.specs.Names.{IsName}
use Rattle.protocol_model.specs.Numbering.{row_of}
use Rattle.protocol_model.specs.System.{SystemData, data_of}
use Rattle.protocol_properties.specs.Sections.{section_texts}
use Rattle.protocol_properties.specs.declared.properties.Property.{Property}

-- the first fault of the blocks: that of the first row which has one
abbrev pub first_properties_fault : SystemData → List (Name × RowText) → Option ModelFault
first_properties_fault s blocks = first_fault_of (λ _ block. row_fault (section_texts s) block.1) [] blocks

-- the names of the blocks, each once, in the order of their first blocks
abbrev pub property_names : List (Name × RowText) → List (List ℕ)
property_names [] = []
property_names (block ∷ blocks) =
    block.0.text ∷ filter (λ name. not (bytes_eq block.0.text name)) (property_names blocks)

-- the rows of the blocks of this name, in their order
abbrev pub rows_named : List ℕ → List (Name × RowText) → List RowText
rows_named name blocks = map (λ block. block.1) (filter (λ block. bytes_eq block.0.text name) blocks)

-- the system with these bad rows in place of its own
abbrev pub with_bad_rows : SystemData → List Row → SystemData
with_bad_rows s bad = data_of s.name s.sections s.init s.rules bad

-- the property of this name: the system whose bad rows are those of the blocks of the name
abbrev pub property_named : SystemData → List (Name × RowText) → List ℕ → Property
property_named s blocks name =
    record { name = name; system = with_bad_rows s (map (row_of (section_texts s)) (rows_named name blocks)) }

-- the properties of the blocks
abbrev pub properties_of : SystemData → List (Name × RowText) → List Property
properties_of s blocks = map (property_named s blocks) (property_names blocks)

-- a block has a name, and its patterns have no more atoms than the limit
pub record IsAllowedBlock (block : Name × RowText) : Type 0 where
  pub named : IsName block.0.text
  pub row : IsAllowedRow block.1

-- the blocks are within the limits of the language
pub record AreAllowedBlocks (blocks : List (Name × RowText)) : Type 0 where
  pub limit : length blocks ≤ MAX_ROWS
  pub each : AllByRecursion IsAllowedBlock blocks
