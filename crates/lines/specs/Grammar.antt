-- Grammars over the bytes of a line, and what each says. None is ambiguous: what stands where is told by the first separator, or by the
-- bytes with which the line begins.
use Rattle.std.specs.Prelude.{◌≡◌, ◌≢◌, ℕ, min, List, [], ◌∷◌, ◌++◌, Option, Some, ◌⊎◌, length, position}
use Rattle.std.specs.Str.{bytes_eq}
use Rattle.std.specs.Str.Parse.{digits_value}
use Rattle.lines.specs.Bytes.{Lacks, IsCutAt, IsNumber, BeginsOtherwise}

-- A grammar whose lines mean something of a type.
pub data Line : Type 0 → Type 1 where
  -- no line at all
  none : {A : Type 0} → Line A
  -- the empty line, with this meaning
  gives : {A : Type 0} → A → Line A
  -- a number in decimal, which means its value; all values past the limit count as the limit
  number : ℕ → Line ℕ
  -- bytes that have a value
  valued : {A : Type 0} → (List ℕ → Option A) → Line A
  -- these bytes and a line of the one; a line that begins otherwise is one of the other
  case : {A : Type 0} → List ℕ → Line A → Line A → Line A
  -- just these bytes, with this meaning; other bytes are a line of it
  just : {A : Type 0} → List ℕ → A → Line A → Line A
  -- a line of the one before the first separator, and one of the other after it
  cut : {A B : Type 0} → ℕ → Line A → Line B → Line (A × B)
  -- one or more lines of it, with a separator between neighbours
  fields : {A : Type 0} → ℕ → Line A → Line (List A)
  -- a line of the one; bytes that are none of it are a line of the other
  otherwise : {A : Type 0} → Line A → Line A → Line A
  -- a line of it, which means another thing
  means : {A B : Type 0} → (A → B) → Line A → Line B

-- one or more parts with a separator between neighbours, each of which says its value
abbrev pub SaysFields : {A : Type 0} → ℕ → (List ℕ → A → Type 0) → List ℕ → List A → Type 0
SaysFields c x bytes [] = ⊥
SaysFields c x bytes (a ∷ values) =
    (Lacks c bytes × x bytes a × (values ≡ []))
    ⊎ ((front : List ℕ) × (back : List ℕ) × IsCutAt c bytes front back × x front a × SaysFields c x back values)

-- the bytes are a line of the grammar, and say this
abbrev pub Says : {A : Type 0} → Line A → List ℕ → A → Type 0
Says none bytes a = ⊥
Says (gives b) bytes a = (bytes ≡ []) × (a ≡ b)
Says (number limit) bytes n = IsNumber bytes × (n ≡ min (digits_value 10 bytes) limit)
Says (valued value) bytes a = value bytes ≡ Some a
Says (case word x y) bytes a =
    ((rest : List ℕ) × (bytes ≡ word ++ rest) × Says x rest a) ⊎ (BeginsOtherwise word bytes × Says y bytes a)
Says (just word a x) bytes b = ((bytes ≡ word) × (b ≡ a)) ⊎ ((bytes ≢ word) × Says x bytes b)
Says (cut c x y) bytes p = (front : List ℕ) × (back : List ℕ) × IsCutAt c bytes front back × Says x front p.0 × Says y back p.1
Says (fields c x) bytes values = SaysFields c (Says x) bytes values
Says (otherwise x y) bytes a = Says x bytes a ⊎ (((b : _) → Says x bytes b → ⊥) × Says y bytes a)
Says (means f x) bytes b = (a : _) × Says x bytes a × (b ≡ f a)

-- these bytes, and then a line of the grammar
abbrev pub after : {A : Type 0} → List ℕ → Line A → Line A
after word x = case word x none

-- just these bytes, with this meaning
abbrev pub word : {A : Type 0} → List ℕ → A → Line A
word bytes a = just bytes a none

-- one of these texts, which means its place; other bytes are a line of it, and mean the number of these texts
abbrev pub numbered : {A : Type 0} → List (List ℕ) → Line A → Line ℕ
numbered names x = otherwise (valued (λ bytes. position (bytes_eq bytes) names)) (means (λ _. length names) x)

-- For each of these values what it gives, with the separator and these bytes between neighbours.
abbrev pub each : {A B : Type 0} → ℕ → List ℕ → (B → Line A) → List B → Line (List A)
each c bytes x [] = gives []
each c bytes x (b ∷ []) = means (λ a. a ∷ []) (x b)
each c bytes x (b ∷ (d ∷ values)) = means (λ p. p.0 ∷ p.1) (cut c (x b) (after bytes (each c bytes x (d ∷ values))))
