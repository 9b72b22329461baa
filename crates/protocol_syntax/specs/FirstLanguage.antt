-- Law: texts of the first language. Its grammar is written out, without anything that came with language 2.
use Rattle.std.specs.Prelude.{◌≡◌, ◌↔◌, ◌-◌, ℕ, List, ◌∷◌, length, Some, nat_le}
use Rattle.protocol_lexer.specs.declared.Token.{Token}
use Rattle.protocol_lexer.specs.declared.TokenKind.TheVariants.{BraceLeft, BraceRight, Colon, Semicolon}
use Rattle.protocol_lexer.specs.Tokens.{AreTokens}
use Rattle.forms.specs.declared.fault.What.TheVariants as Limits
use Rattle.forms.specs.declared.fault.SyntaxFault.{SyntaxFault}
use Rattle.forms.specs.declared.symbol.Keyword.TheVariants as Words
use Rattle.forms.specs.declared.symbol.Symbol.TheVariants.{Reserved, Sign}
use Rattle.forms.specs.FirstFault.{IsMeaning, IsFault}
use Rattle.forms.specs.Grammar.{Grammar, name, sign, gives, ◌>>=◌, many, many_by, item, up_to}
use Rattle.forms.specs.Symbol.{source_of, token_at}
use Rattle.protocol_syntax.specs.declared.protocol.Protocol.{Protocol}
use Rattle.protocol_syntax.specs.declared.protocol.SectionText.{SectionText}
use Rattle.protocol_syntax.specs.declared.protocol.RuleText.{RuleText}
use Rattle.protocol_syntax.specs.declared.protocol.MoveText.{MoveText}
use Rattle.protocol_syntax.specs.declared.limits.TheConstants.{MAX_SECTIONS, MAX_LETTERS, MAX_ROWS, MAX_RULES}
use Rattle.protocol_syntax.specs.Grammar.{common_kind, common_move, letters_of, row, IsProtocol, IsFirstFault}

-- section = kind name "{" name { name } "}" with kind = "cell" | "array" | "channel" | "stack"
unfoldable pub first_section : ℕ → Grammar SectionText
first_section used = do
  kind ← common_kind
  title ← name
  brace ← sign (Sign BraceLeft)
  letter ← item (nat_le MAX_LETTERS used) Limits.Letters name
  letters ← up_to (MAX_LETTERS - 1 - used) Limits.Letters name
  close ← sign (Sign BraceRight)
  gives (record { kind = kind; name = title; letters = letter ∷ letters })

unfoldable pub first_more_sections : SectionText → Grammar (List SectionText)
first_more_sections first =
    many_by (λ before. item (nat_le (MAX_SECTIONS - 1) (length before)) Limits.Sections (first_section (letters_of (first ∷ before))))

-- step = name ":" move ";" with the moves "at", "pair", "ring", "two", "set", "send", "recv", "pop" and "push"
unfoldable pub first_step : Grammar MoveText
first_step = do
  section ← name
  colon ← sign (Sign Colon)
  body ← common_move
  end ← sign (Sign Semicolon)
  gives (record { section = section; body = body })

-- rule = "rule" name "{" { step } "}"
unfoldable pub first_rule : Grammar RuleText
first_rule = do
  word ← sign (Reserved Words.Rule)
  title ← name
  brace ← sign (Sign BraceLeft)
  moves ← many first_step
  close ← sign (Sign BraceRight)
  gives (record { name = title; moves = moves })

-- protocol = "protocol" name section { section } { init } { rule } { bad }
unfoldable pub first_protocol : Grammar Protocol
first_protocol = do
  word ← sign (Reserved Words.Protocol)
  title ← name
  first ← first_section 0
  sections ← first_more_sections first
  init ← up_to MAX_ROWS Limits.InitRows (row Words.Init)
  rules ← up_to MAX_RULES Limits.Rules first_rule
  bad ← up_to MAX_ROWS Limits.BadRows (row Words.Bad)
  gives (record { name = title; language = 1; sections = first ∷ sections; init = init; rules = rules; bad = bad })

-- the head of the text names no language: its third token is not `language`
abbrev pub NamesNoLanguage : List ℕ → Type 0
NamesNoLanguage text = (tokens : List Token) (t : Token) → AreTokens text tokens → token_at (source_of text tokens) 2 ≡ Some (Reserved Words.Language, t) → ⊥

-- by this grammar a text says exactly the protocols of language 1 that it says by that of both languages
abbrev pub FirstLanguageStays : Type 0
FirstLanguageStays = (text : List ℕ) (p : Protocol) → IsMeaning first_protocol text p ↔ (IsProtocol text p × (p.language ≡ 1))

-- a text whose head names no language says the same by both grammars
abbrev pub FirstProtocolsStay : Type 0
FirstProtocolsStay = (text : List ℕ) → NamesNoLanguage text → (p : Protocol) → IsMeaning first_protocol text p ↔ IsProtocol text p

-- and has the same first fault
abbrev pub FirstFaultsStay : Type 0
FirstFaultsStay = (text : List ℕ) → NamesNoLanguage text → (fault : SyntaxFault) → IsFault first_protocol text fault ↔ IsFirstFault text fault
