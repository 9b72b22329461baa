-- The grammar of texts of properties: rows of bad configurations, each with the name of its property. The rows with one name are one property.
use Rattle.std.specs.Prelude.{ℕ, ◌-◌, List, ◌∷◌}
use Rattle.forms.specs.declared.fault.What.TheVariants as Limits
use Rattle.forms.specs.declared.fault.SyntaxFault.{SyntaxFault}
use Rattle.forms.specs.declared.name.Name.{Name}
use Rattle.forms.specs.declared.symbol.Keyword.TheVariants as Words
use Rattle.forms.specs.declared.symbol.Symbol.TheVariants.{Reserved}
use Rattle.forms.specs.FirstFault.{IsMeaning, IsFault}
use Rattle.forms.specs.Grammar.{Grammar, name, sign, gives, ◌>>=◌, up_to}
use Rattle.protocol_syntax.specs.declared.protocol.RowText.{RowText}
use Rattle.protocol_syntax.specs.declared.limits.TheConstants.{MAX_ROWS}
use Rattle.protocol_syntax.specs.Grammar.{row_body}

-- block = "bad" name "{" { part } "}"
unfoldable pub block : Grammar (Name × RowText)
block = do
  word ← sign (Reserved Words.Bad)
  title ← name
  row ← row_body
  gives (title, row)

-- properties = block { block }, and no more than MAX_ROWS
unfoldable pub properties : Grammar (List (Name × RowText))
properties = do
  first ← block
  rest ← up_to (MAX_ROWS - 1) Limits.BadRows block
  gives (first ∷ rest)

-- the text is a list of properties within the limits, and says these rows
abbrev pub AreProperties : List ℕ → List (Name × RowText) → Type 0
AreProperties text rows = IsMeaning properties text rows

-- the first fault of a text of properties: a bad byte wherever it stands, and else the first token that is wrong
abbrev pub IsPropertiesFault : List ℕ → SyntaxFault → Type 0
IsPropertiesFault text fault = IsFault properties text fault
