-- The first fault of a protocol, a text of properties, a configuration or a certificate, and how it is told.
use Rattle.std.specs.Prelude.{◌≡◌, ℕ, List, [], ◌++◌, Option, Some, codes, decimal}
use Rattle.protocol_lexer.specs.declared.Place.{Place}
use Rattle.forms.specs.declared.fault.What.{What}
use Rattle.forms.specs.declared.fault.What.TheVariants as Limits
use Rattle.forms.specs.declared.fault.SyntaxFault.{SyntaxFault}
use Rattle.forms.specs.declared.fault.SyntaxFault.TheVariants as syntax
use Rattle.forms.specs.FirstFault.{IsMeaning, IsFault}
use Rattle.forms.specs.Grammar.{Grammar}
use Rattle.protocol_syntax.specs.Grammar.{protocol}
use Rattle.protocol_model.specs.declared.fault.ModelFault.{ModelFault}
use Rattle.protocol_model.specs.declared.fault.ModelFault.TheVariants as model
use Rattle.protocol_model.specs.Faults.{first_fault}
use Rattle.configuration_words.specs.declared.fault.ConfigFault.{ConfigFault}
use Rattle.configuration_words.specs.declared.fault.ConfigFault.TheVariants as configuration
use Rattle.certificate.specs.declared.fault.CertFault.{CertFault}
use Rattle.certificate.specs.declared.fault.CertFault.TheVariants as certificate
use Rattle.command_replies.specs.declared.refusal.Refusal.{Refusal}
use Rattle.command_replies.specs.declared.refusal.Refusal.TheVariants.{Syntax, Model}

-- this is the first fault of a text of this grammar: of its tokens and grammar, or else of the names in what it says
abbrev pub IsRefusalIn : {T : Type 0} → Grammar T → (T → Option ModelFault) → List ℕ → Refusal → Type 0
IsRefusalIn grammar names_fault text (Syntax fault) = IsFault grammar text fault
IsRefusalIn {T} grammar names_fault text (Model fault) = (said : T) × IsMeaning grammar text said × (names_fault said ≡ Some fault)

-- this is the first fault of the text of a protocol
abbrev pub IsRefusalOf : List ℕ → Refusal → Type 0
IsRefusalOf text refusal = IsRefusalIn protocol first_fault text refusal

-- what there is too much of
abbrev pub what_word : What → List ℕ
what_word Limits.NameBytes = codes "name bytes"
what_word Limits.Sections = codes "sections"
what_word Limits.Letters = codes "letters"
what_word Limits.InitRows = codes "init rows"
what_word Limits.Rules = codes "rules"
what_word Limits.BadRows = codes "bad rows"
what_word Limits.Atoms = codes "atoms"
what_word Limits.Guards = codes "guards"
what_word Limits.Pushed = codes "pushed letters"

-- a fault of a text of this kind at this place
abbrev pub located : List ℕ → Place → List ℕ → List ℕ
located kind place text =
    codes "armc: " ++ kind ++ codes ": line " ++ decimal place.line ++ codes " column " ++ decimal place.column ++ codes ": " ++ text

abbrev pub syntax_text : List ℕ → SyntaxFault → List ℕ
syntax_text kind (syntax.BadByte place) = located kind place (codes "bad byte")
syntax_text kind (syntax.Unexpected place) = located kind place (codes "unexpected token")
syntax_text kind (syntax.TooMany what place) = located kind place (codes "too many " ++ what_word what)
syntax_text kind syntax.Memory = []

abbrev pub model_text : List ℕ → ModelFault → List ℕ
model_text kind (model.Duplicate name) = located kind name.place (codes "duplicate " ++ name.text)
model_text kind (model.Unknown name) = located kind name.place (codes "unknown " ++ name.text)
model_text kind (model.TouchedTwice name) = located kind name.place (codes "touched twice " ++ name.text)
model_text kind (model.WrongKind name) = located kind name.place (codes "wrong kind " ++ name.text)
model_text kind model.Memory = []

-- how the fault of a text of this kind is told; running out of memory is no fault of a text
abbrev pub refusal_text : List ℕ → Refusal → List ℕ
refusal_text kind (Syntax fault) = syntax_text kind fault
refusal_text kind (Model fault) = model_text kind fault

-- how the fault of a configuration is told
abbrev pub configuration_refusal_text : ConfigFault → List ℕ
configuration_refusal_text (configuration.BadByte place) = located (codes "configuration") place (codes "bad byte")
configuration_refusal_text (configuration.Unexpected place) = located (codes "configuration") place (codes "unexpected token")
configuration_refusal_text configuration.Memory = []

-- a fault of a certificate at the line of this number
abbrev pub in_certificate : ℕ → List ℕ → List ℕ
in_certificate n text = codes "armc: certificate: line " ++ decimal n ++ codes ": " ++ text

-- how the fault of a certificate is told
abbrev pub certificate_refusal_text : CertFault → List ℕ
certificate_refusal_text (certificate.Version n) = in_certificate n (codes "version")
certificate_refusal_text (certificate.BadLine n) = in_certificate n (codes "bad line")
certificate_refusal_text (certificate.UnknownName n) = in_certificate n (codes "unknown name")
certificate_refusal_text (certificate.OutOfRange n) = in_certificate n (codes "out of range")
certificate_refusal_text (certificate.TwoEdges n) = in_certificate n (codes "two edges")
certificate_refusal_text (certificate.Truncated n) = in_certificate n (codes "truncated")
certificate_refusal_text (certificate.NothingToVerify n) = in_certificate n (codes "nothing to verify")
certificate_refusal_text (certificate.TooMany n) = in_certificate n (codes "too many states")
certificate_refusal_text (certificate.TwoLetters n) = in_certificate n (codes "two letters")
certificate_refusal_text certificate.Memory = []
