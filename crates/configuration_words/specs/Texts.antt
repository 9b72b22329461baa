-- The texts of configurations.
use Rattle.std.specs.Prelude.{ℕ, List, [], ◌∷◌, ◌++◌, slice_get, unwrap_or, codes}
use Rattle.std.specs.List.{join_by}
use Rattle.protocol_model.specs.declared.system.Section.{Section}
use Rattle.protocol_model.specs.declared.system.Configuration.{Configuration}
use Rattle.protocol_model.specs.System.{SystemData}

-- the name of a letter of the section
abbrev pub letter_name : Section → ℕ → List ℕ
letter_name section a = unwrap_or (slice_get section.letters a) []

-- the names of the letters with one space between neighbours, or `empty` where there is no letter
abbrev pub list_text : Section → List ℕ → List ℕ
list_text section [] = codes "empty"
list_text section (a ∷ list) = join_by (letter_name section) (codes " ") (a ∷ list)

-- the name of the section, a colon, and its list
abbrev pub part_text : Section → List ℕ → List ℕ
part_text section list = section.name ++ codes ": " ++ list_text section list

-- the parts of all sections
abbrev pub part_texts : List Section → List (List ℕ) → List (List ℕ)
part_texts [] lists = []
part_texts (section ∷ sections) [] = []
part_texts (section ∷ sections) (list ∷ lists) = part_text section list ∷ part_texts sections lists

-- the text of a configuration: its parts with a semicolon and a space between neighbours
abbrev pub configuration_text : SystemData → Configuration → List ℕ
configuration_text s c = join_by (λ part. part) (codes "; ") (part_texts s.sections c.lists)
