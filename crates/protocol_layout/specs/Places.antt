-- A protocol apart from the places of its names: each name is put at the start of the text.
use Rattle.std.specs.Prelude.{◌≡◌, ℕ, List, map}
use Rattle.protocol_lexer.specs.Place.{start_place}
use Rattle.forms.specs.declared.name.Name.{Name}
use Rattle.protocol_syntax.specs.declared.protocol.Protocol.{Protocol}
use Rattle.protocol_syntax.specs.declared.protocol.SectionText.{SectionText}
use Rattle.protocol_syntax.specs.declared.protocol.RowText.{RowText}
use Rattle.protocol_syntax.specs.declared.protocol.PartText.{PartText}
use Rattle.protocol_syntax.specs.declared.protocol.AtomText.{AtomText}
use Rattle.protocol_syntax.specs.declared.protocol.BaseText.{BaseText}
use Rattle.protocol_syntax.specs.declared.protocol.BaseText.TheVariants.{Letter, Set, Any}
use Rattle.protocol_syntax.specs.declared.protocol.RuleText.{RuleText}
use Rattle.protocol_syntax.specs.declared.protocol.MoveText.{MoveText}
use Rattle.protocol_syntax.specs.MoveLetters.{MoveBody, renamed}
use Rattle.protocol_syntax.specs.Grammar.{IsProtocol}

abbrev pub name_without_place : Name → Name
name_without_place n = record { text = n.text; place = start_place }

abbrev pub section_without_places : SectionText → SectionText
section_without_places s = record { kind = s.kind; name = name_without_place s.name; letters = map name_without_place s.letters }

abbrev pub base_without_places : BaseText → BaseText
base_without_places (Letter n) = Letter (name_without_place n)
base_without_places (Set letters) = Set (map name_without_place letters)
base_without_places Any = Any

abbrev pub atom_without_places : AtomText → AtomText
atom_without_places a = record { base = base_without_places a.base; many = a.many }

abbrev pub part_without_places : PartText → PartText
part_without_places p = record { section = name_without_place p.section; atoms = map atom_without_places p.atoms }

abbrev pub row_without_places : RowText → RowText
row_without_places r = record { parts = map part_without_places r.parts }

abbrev pub move_without_places : MoveBody → MoveBody
move_without_places m = renamed name_without_place base_without_places m

abbrev pub step_without_places : MoveText → MoveText
step_without_places m = record { section = name_without_place m.section; body = move_without_places m.body }

abbrev pub rule_without_places : RuleText → RuleText
rule_without_places r = record { name = name_without_place r.name; moves = map step_without_places r.moves }

-- the protocol with every name at the same place
abbrev pub without_places : Protocol → Protocol
without_places p = record {
  name = name_without_place p.name;
  language = p.language;
  sections = map section_without_places p.sections;
  init = map row_without_places p.init;
  rules = map rule_without_places p.rules;
  bad = map row_without_places p.bad;
}

-- where some text is the protocol, this text is one that differs from it in places alone
abbrev pub IsReadBack : List ℕ → Protocol → Type 0
IsReadBack text p = (source : List ℕ) → IsProtocol source p → (q : Protocol) × IsProtocol text q × (without_places q ≡ without_places p)
