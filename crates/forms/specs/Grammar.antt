-- Grammars over the tokens of a text, and what each says. A span from i to j has the tokens at i and after it, up to the one before j.
use Rattle.std.specs.Prelude.{◌≡◌, ◌<◌, ◌≤◌, ℕ, ◌+◌, ◌-◌, Bool, true, List, [], ◌∷◌, ◌++◌, length, Some, nat_le, position, ⊤, ◌⊎◌}
use Rattle.std.specs.Str.{bytes_eq}
use Rattle.protocol_lexer.specs.declared.Token.{Token}
use Rattle.forms.specs.declared.symbol.Symbol.{Symbol}
use Rattle.forms.specs.declared.symbol.Symbol.TheVariants.{Unreserved}
use Rattle.forms.specs.declared.fault.What.{What}
use Rattle.forms.specs.declared.fault.What.TheVariants.{NameBytes}
use Rattle.forms.specs.declared.name.Name.{Name}
use Rattle.forms.specs.declared.name.TheConstants.{MAX_NAME_BYTES}
use Rattle.forms.specs.Symbol.{Source, token_at, spelled}

infixl 10 ◌>>=◌
infixl 8 ◌or◌
-- A grammar whose sequences mean something of a type.
pub data Grammar : Type 0 → Type 1 where
  -- a token of which only the symbol matters
  sign : Symbol → Grammar ⊤
  -- a name: a word that is not reserved, with its place
  name : Grammar Name
  -- a name that stands in a list of names, which means its number there
  one_of : List (List ℕ) → Grammar ℕ
  -- no token, with this meaning
  gives : {A : Type 0} → A → Grammar A
  -- a sequence of the one, and after it one of the other
  ◌>>=◌ : {A B : Type 0} → Grammar A → (A → Grammar B) → Grammar B
  -- either
  ◌or◌ : {A : Type 0} → Grammar A → Grammar A → Grammar A
  -- a sequence of it, or nothing, which then means this
  optional : {A : Type 0} → A → Grammar A → Grammar A
  -- none or more sequences, each of a grammar whose limits may depend on the meanings of those before it
  many_by : {A : Type 0} → (List A → Grammar A) → Grammar (List A)
  -- a sequence of it, where no room for another item of this kind may be left
  item : {A : Type 0} → Bool → What → Grammar A → Grammar A
  -- a sequence of it where this is true, and else nothing that begins
  only : {A : Type 0} → Bool → Grammar A → Grammar A

-- the token at an index is this symbol, and is this token
abbrev pub IsAt : Source → ℕ → Symbol → Token → Type 0
IsAt source i x t = token_at source i ≡ Some (x, t)

-- the name that a token is
abbrev pub name_of : List ℕ → Token → Name
name_of text t = record { text = spelled text t; place = t.place }

-- the token is the name with this number
abbrev pub IsNumber : List (List ℕ) → List ℕ → Token → ℕ → Type 0
IsNumber names text t a = position (bytes_eq (spelled text t)) names ≡ Some a

-- sequences one after the other, each said by what the meanings of those before it give
abbrev pub SaysMany : {A : Type 0} → (List A → ℕ → ℕ → A → Type 0) → List A → ℕ → ℕ → List A → Type 0
SaysMany x before i j [] = j ≡ i
SaysMany x before i j (a ∷ values) = (k : ℕ) × x before i k a × SaysMany x (before ++ a ∷ []) k j values

-- the span is a sequence of the grammar, and says this
abbrev pub Says : {A : Type 0} → Grammar A → Source → ℕ → ℕ → A → Type 0
Says (sign x) source i j a = (j ≡ i + 1) × ((t : Token) × IsAt source i x t × (a ≡ tt))
Says name source i j a = (j ≡ i + 1) × ((t : Token) × IsAt source i Unreserved t × (a ≡ name_of source.text t))
Says (one_of names) source i j a = (j ≡ i + 1) × ((t : Token) × IsAt source i Unreserved t × IsNumber names source.text t a)
Says (gives b) source i j a = (j ≡ i) × (a ≡ b)
Says (x >>= y) source i j b = (k : ℕ) × (a : _) × Says x source i k a × Says (y a) source k j b
Says (x or y) source i j a = Says x source i j a ⊎ Says y source i j a
Says (optional absent x) source i j a = ((j ≡ i) × (a ≡ absent)) ⊎ Says x source i j a
Says (many_by x) source i j values = SaysMany (λ before. Says (x before) source) [] i j values
Says (item full what x) source i j a = Says x source i j a
Says (only allowed x) source i j a = (allowed ≡ true) × Says x source i j a

-- The span begins a sequence of the grammar. It begins one and then another where it begins the one, or is a sequence of the one followed
-- by what begins the other.
abbrev pub Begins : {A : Type 0} → Grammar A → Source → ℕ → ℕ → Type 0
Begins (sign x) source i j = (j ≡ i) ⊎ ((j ≡ i + 1) × ((t : Token) × IsAt source i x t))
Begins name source i j = (j ≡ i) ⊎ ((j ≡ i + 1) × ((t : Token) × IsAt source i Unreserved t))
Begins (one_of names) source i j =
    (j ≡ i) ⊎ ((j ≡ i + 1) × ((t : Token) × IsAt source i Unreserved t × ((a : ℕ) × IsNumber names source.text t a)))
Begins (gives b) source i j = j ≡ i
Begins (x >>= y) source i j = Begins x source i j ⊎ ((k : ℕ) × (a : _) × Says x source i k a × Begins (y a) source k j)
Begins (x or y) source i j = Begins x source i j ⊎ Begins y source i j
Begins (optional absent x) source i j = (j ≡ i) ⊎ Begins x source i j
Begins (many_by x) source i j =
    (j ≡ i) ⊎ ((k : ℕ) × (values : List _) × SaysMany (λ before. Says (x before) source) [] i k values × Begins (x values) source k j)
Begins (item full what x) source i j = Begins x source i j
Begins (only allowed x) source i j = (j ≡ i) ⊎ ((allowed ≡ true) × Begins x source i j)

-- The span begins a sequence of the grammar, and its last token begins an item past a limit: a name that is too long, or the first token
-- of an item for which no room is left. A name that is too long is told as such.
abbrev pub Passes : {A : Type 0} → Grammar A → Source → What → ℕ → ℕ → Type 0
Passes (sign x) source w i j = ⊥
Passes name source w i j =
    (j ≡ i + 1) × ((t : Token) × IsAt source i Unreserved t × (MAX_NAME_BYTES < t.end - t.start) × (w ≡ NameBytes))
Passes (one_of names) source w i j = ⊥
Passes (gives b) source w i j = ⊥
Passes (x >>= y) source w i j = Passes x source w i j ⊎ ((k : ℕ) × (a : _) × Says x source i k a × Passes (y a) source w k j)
Passes (x or y) source w i j = Passes x source w i j ⊎ Passes y source w i j
Passes (optional absent x) source w i j = Passes x source w i j
Passes (many_by x) source w i j =
    (k : ℕ) × (values : List _) × SaysMany (λ before. Says (x before) source) [] i k values × Passes (x values) source w k j
Passes (item full what x) source w i j = Passes x source w i j
    ⊎ ((full ≡ true) × (w ≡ what) × (j ≡ i + 1) × Begins x source i j × (Passes x source NameBytes i j → ⊥))
Passes (only allowed x) source w i j = (allowed ≡ true) × Passes x source w i j

-- none or more sequences of the grammar
abbrev pub many : {A : Type 0} → Grammar A → Grammar (List A)
many x = many_by (λ _. x)

-- none or more sequences of the grammar, and no more than so many
unfoldable pub up_to : {A : Type 0} → ℕ → What → Grammar A → Grammar (List A)
up_to limit what x = many_by (λ before. item (nat_le limit (length before)) what x)

-- one symbol, with this meaning
abbrev pub means : {A : Type 0} → Symbol → A → Grammar A
means x a = do
  symbol ← sign x
  gives a

-- one sequence of each of the grammars that a list gives
abbrev pub each : {A B : Type 0} → (B → Grammar A) → List B → Grammar (List A)
each x [] = gives []
each x (b ∷ bs) = do
  a ← x b
  values ← each x bs
  gives (a ∷ values)

-- all tokens are a sequence of the grammar, within the limits, and say this
pub record IsWithin {A : Type 0} (grammar : Grammar A) (source : Source) (a : A) : Type 0 where
  pub says : Says grammar source 0 (length source.tokens) a
  pub within : (w : What) (k : ℕ) → k ≤ length source.tokens → Passes grammar source w 0 k → ⊥
