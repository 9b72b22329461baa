-- What a text means by a grammar, and its first fault.
use Rattle.std.specs.Prelude.{◌≡◌, ◌<◌, ◌≤◌, ℕ, ◌+◌, List, length, ◌⊎◌}
use Rattle.protocol_lexer.specs.declared.Place.{Place}
use Rattle.protocol_lexer.specs.declared.Token.{Token}
use Rattle.protocol_lexer.specs.Tokens.{AreTokens, IsBadByte}
use Rattle.forms.specs.declared.fault.What.{What}
use Rattle.forms.specs.declared.fault.SyntaxFault.{SyntaxFault}
use Rattle.forms.specs.declared.fault.SyntaxFault.TheVariants as Faults
use Rattle.forms.specs.Symbol.{Source, source_of, place_at}
use Rattle.forms.specs.Grammar.{Grammar, Says, Begins, Passes, IsWithin}

-- the tokens before an index begin a sequence, and none of them begins an item past a limit
abbrev pub IsSoundBefore : {A : Type 0} → Grammar A → Source → ℕ → Type 0
IsSoundBefore g source j = (k : ℕ) → k ≤ j → Begins g source 0 k × ((w : What) → Passes g source w 0 k → ⊥)

-- The token at an index is the first that is wrong: it cannot stand there, or it is the end and the tokens are no sequence.
pub record IsUnexpected {A : Type 0} (g : Grammar A) (source : Source) (j : ℕ) (place : Place) : Type 0 where
  pub before : IsSoundBefore g source j
  pub here : ((j < length source.tokens) × (Begins g source 0 (j + 1) → ⊥))
      ⊎ ((j ≡ length source.tokens) × ((a : A) → Says g source 0 j a → ⊥))
  pub at : place ≡ place_at source j

-- The token at an index is the first that is wrong: it may stand there, and begins an item past a limit.
pub record IsTooMany {A : Type 0} (g : Grammar A) (source : Source) (j : ℕ) (what : What) (place : Place) : Type 0 where
  pub before : IsSoundBefore g source j
  pub token : j < length source.tokens
  pub begins : Begins g source 0 (j + 1)
  pub passes : Passes g source what 0 (j + 1)
  pub at : place ≡ place_at source j

-- the text is a sequence of the grammar within the limits, and means this
abbrev pub IsMeaning : {A : Type 0} → Grammar A → List ℕ → A → Type 0
IsMeaning g text a = (tokens : List Token) × AreTokens text tokens × IsWithin g (source_of text tokens) a

-- the first fault of a text: a bad byte wherever it stands, and else the first token that is wrong
abbrev pub IsFault : {A : Type 0} → Grammar A → List ℕ → SyntaxFault → Type 0
IsFault g text (Faults.BadByte place) = IsBadByte text place
IsFault g text (Faults.Unexpected place) =
    (tokens : List Token) × AreTokens text tokens × ((j : ℕ) × IsUnexpected g (source_of text tokens) j place)
IsFault g text (Faults.TooMany what place) =
    (tokens : List Token) × AreTokens text tokens × ((j : ℕ) × IsTooMany g (source_of text tokens) j what place)
IsFault g text Faults.Memory = ⊥

-- the text has a meaning or a first fault
abbrev pub MeaningOrFault : {A : Type 0} → Grammar A → List ℕ → Type 0
MeaningOrFault {A} g text = ((a : A) × IsMeaning g text a) ⊎ ((fault : SyntaxFault) × IsFault g text fault)
