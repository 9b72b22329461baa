-- The sections of a system as a text writes them.
use Rattle.std.specs.Prelude.{ℕ, List, map}
use Rattle.forms.specs.declared.name.Name.{Name}
use Rattle.protocol_syntax.specs.declared.protocol.SectionText.{SectionText}
use Rattle.protocol_model.specs.declared.system.Section.{Section}
use Rattle.protocol_model.specs.System.{SystemData}

-- the text as a name; its place is of no account
abbrev pub name_of : List ℕ → Name
name_of text = record { text = text; place = record { line = 1; column = 1 } }

abbrev pub names_of : List (List ℕ) → List Name
names_of texts = map name_of texts

abbrev pub section_text : Section → SectionText
section_text section = record { kind = section.kind; name = name_of section.name; letters = names_of section.letters }

-- the sections of a system as a text writes them
abbrev pub section_texts : SystemData → List SectionText
section_texts s = map section_text s.sections
