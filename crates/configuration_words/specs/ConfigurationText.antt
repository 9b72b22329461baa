-- Which texts are configurations, and where every other text first goes wrong: the grammar of configurations is made of the system's
-- sections.
use Rattle.std.specs.Prelude.{ℕ, Bool, true, false, List, [], ◌∷◌}
use Rattle.protocol_lexer.specs.declared.TokenKind.TheVariants.{Colon, Semicolon}
use Rattle.forms.specs.declared.fault.SyntaxFault.{SyntaxFault}
use Rattle.forms.specs.declared.fault.SyntaxFault.TheVariants as Faults
use Rattle.forms.specs.declared.symbol.Keyword.TheVariants as Words
use Rattle.forms.specs.declared.symbol.Symbol.TheVariants.{Reserved, Sign}
use Rattle.forms.specs.Grammar.{Grammar, sign, one_of, gives, ◌>>=◌, ◌or◌, many, means, each}
use Rattle.forms.specs.FirstFault.{IsMeaning, IsFault}
use Rattle.protocol_model.specs.declared.system.Section.{Section}
use Rattle.protocol_model.specs.declared.system.Configuration.{Configuration}
use Rattle.protocol_model.specs.System.{SystemData}
use Rattle.protocol_model.specs.Patterns.{has_any_length}
use Rattle.configuration_words.specs.declared.fault.ConfigFault.{ConfigFault}
use Rattle.configuration_words.specs.declared.fault.ConfigFault.TheVariants.{BadByte, Unexpected, Memory}

-- letter { letter }
unfoldable pub letters : Section → Grammar (List ℕ)
letters section = do
  first ← one_of section.letters
  rest ← many (one_of section.letters)
  gives (first ∷ rest)

unfoldable pub one_letter : Section → Grammar (List ℕ)
one_letter section = do
  letter ← one_of section.letters
  gives (letter ∷ [])

-- list = "empty" | letter { letter }, where lists have any length, and else one letter
unfoldable pub list_of : Bool → Section → Grammar (List ℕ)
list_of true section = means (Reserved Words.Empty) [] or letters section
list_of false section = one_letter section

-- part = name ":" list, with the name and the letters of the section
unfoldable pub part : Section → Grammar (List ℕ)
part section = do
  name ← one_of (section.name ∷ [])
  colon ← sign (Sign Colon)
  list_of (has_any_length section.kind) section

-- ";" part
unfoldable pub later_part : Section → Grammar (List ℕ)
later_part section = do
  semicolon ← sign (Sign Semicolon)
  part section

-- part { ";" part }, with a part for each section in their order
unfoldable pub parts : List Section → Grammar (List (List ℕ))
parts [] = gives []
parts (section ∷ sections) = do
  list ← part section
  lists ← each later_part sections
  gives (list ∷ lists)

unfoldable pub configuration : List Section → Grammar Configuration
configuration sections = do
  lists ← parts sections
  gives (record { lists = lists })

-- the text means this configuration
abbrev pub MeansConfiguration : SystemData → List ℕ → Configuration → Type 0
MeansConfiguration s text c = IsMeaning (configuration s.sections) text c

-- the same fault of the grammar
abbrev pub syntax_fault : ConfigFault → SyntaxFault
syntax_fault (BadByte place) = Faults.BadByte place
syntax_fault (Unexpected place) = Faults.Unexpected place
syntax_fault Memory = Faults.Memory

-- the first fault of a text: a bad byte wherever it stands, and else the first token through which the text begins no configuration
abbrev pub IsFirstFault : SystemData → List ℕ → ConfigFault → Type 0
IsFirstFault s text fault = IsFault (configuration s.sections) text (syntax_fault fault)

-- the fault of a configuration that a fault of the grammar is; only private contracts speak of this
abbrev pub config_fault : SyntaxFault → ConfigFault
config_fault (Faults.BadByte place) = BadByte place
config_fault (Faults.Unexpected place) = Unexpected place
config_fault (Faults.TooMany what place) = Unexpected place
config_fault Faults.Memory = Memory
