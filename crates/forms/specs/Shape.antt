-- The shape of a form: the form without its meanings, so that what tells its parts apart is computed.
use denote.Enum.Declared.{tag_of}
use Rattle.std.specs.Prelude.{◌≡◌, ℕ, ◌+◌, ◌*◌, Bool, true, false, not, ◌&&◌, ◌||◌, List, [], ◌∷◌, ◌++◌, Option, Some, None, nat_eq, if◌then◌else◌, ⊤}
use Rattle.protocol_lexer.specs.declared.Token.{Token}
use Rattle.protocol_lexer.specs.contracts.TokenKind.{the_type as kind_type}
use Rattle.forms.specs.contracts.symbol.Keyword.{the_type as keyword_type}
use Rattle.forms.specs.declared.symbol.Symbol.{Symbol}
use Rattle.forms.specs.declared.symbol.Symbol.TheVariants.{Unreserved, Reserved, Sign}
use Rattle.forms.specs.Symbol.{Source, token_at}
use Rattle.forms.specs.Grammar.{Grammar, sign, name, one_of, gives, ◌>>=◌, ◌or◌, optional, many_by, item, only}

-- a number for each symbol: an even one for a reserved word and an odd one for a sign, in the order of their types; 0 is the number of none
unfoldable pub code : Symbol → ℕ
code Unreserved = 1
code (Reserved k) = 2 + 2 * tag_of keyword_type k
code (Sign k) = 3 + 2 * tag_of kind_type k

abbrev pub code_of_token : Option (Symbol × Token) → ℕ
code_of_token None = 0
code_of_token (Some p) = code p.0

-- the number of the symbol at an index
unfoldable pub code_at : Source → ℕ → ℕ
code_at source i = code_of_token (token_at source i)

-- whether the token at an index is this symbol
unfoldable pub next_is : Source → Symbol → ℕ → Bool
next_is source x i = nat_eq (code_at source i) (code x)

pub data Shape : Type 0 where
  one : Symbol → Shape
  word : Shape
  listed : Shape
  none : Shape
  after : Shape → Shape → Shape
  either : Shape → Shape → Shape
  perhaps : Shape → Shape
  often : Shape → Shape
  limited : Shape → Shape
  allowed : Shape → Shape

-- a meaning of the grammar
abbrev pub sample : {A : Type 0} → Grammar A → A
sample (sign x) = tt
sample name = record { text = []; place = record { line = 0; column = 0 } }
sample (one_of names) = 0
sample (gives a) = a
sample (x >>= y) = sample (y (sample x))
sample (x or y) = sample x
sample (optional absent x) = absent
sample (many_by x) = []
sample (item full what x) = sample x
sample (only b x) = sample x

abbrev pub shape : {A : Type 0} → Grammar A → Shape
shape (sign x) = one x
shape name = word
shape (one_of names) = listed
shape (gives a) = none
shape (x >>= y) = after (shape x) (shape (y (sample x)))
shape (x or y) = either (shape x) (shape y)
shape (optional absent x) = perhaps (shape x)
shape (many_by x) = often (shape (x []))
shape (item full what x) = limited (shape x)
shape (only b x) = allowed (shape x)

-- The grammar has this shape, whatever the meanings of its parts are.
abbrev pub HasShape : {A : Type 0} → Grammar A → Shape → Type 0
HasShape (sign x) (one y) = x ≡ y
HasShape name word = ⊤
HasShape (one_of names) listed = ⊤
HasShape (gives a) none = ⊤
HasShape (x >>= y) (after p q) = HasShape x p × ((a : _) → HasShape (y a) q)
HasShape (x or y) (either p q) = HasShape x p × HasShape y q
HasShape (optional absent x) (perhaps p) = HasShape x p
HasShape (many_by x) (often p) = (before : _) → HasShape (x before) p
HasShape (item full what x) (limited p) = HasShape x p
HasShape (only b x) (allowed p) = HasShape x p
HasShape _ _ = ⊥

-- what follows has one shape, whatever the meanings of what stands before it
abbrev pub IsUniform : {A : Type 0} → Grammar A → Type 0
IsUniform x = HasShape x (shape x)

-- no sequence is empty
abbrev pub grows : Shape → Bool
grows (one x) = true
grows word = true
grows listed = true
grows none = false
grows (after p q) = grows p || grows q
grows (either p q) = true
grows (perhaps p) = false
grows (often p) = false
grows (limited p) = true
grows (allowed p) = true

-- the symbols with which a sequence may begin
abbrev pub first : Shape → List ℕ
first (one x) = code x ∷ []
first word = code Unreserved ∷ []
first listed = code Unreserved ∷ []
first none = []
first (after p q) = if grows p then first p else first p ++ first q
first (either p q) = first p ++ first q
first (perhaps p) = first p
first (often p) = first p
first (limited p) = first p
first (allowed p) = first p

-- the symbols with which it may go on where it could end too
abbrev pub more : Shape → List ℕ
more (one x) = []
more word = []
more listed = []
more none = []
more (after p q) = if grows q then more q else more p ++ more q
more (either p q) = more p ++ more q
more (perhaps p) = more p ++ first p
more (often p) = more p ++ first p
more (limited p) = more p
more (allowed p) = more p

abbrev pub is_in : List ℕ → ℕ → Bool
is_in [] n = false
is_in (m ∷ ms) n = if nat_eq n m then true else is_in ms n

-- no number is in both
abbrev pub are_apart : List ℕ → List ℕ → Bool
are_apart [] ys = true
are_apart (x ∷ xs) ys = if is_in ys x then false else are_apart xs ys

-- the part with which it begins is never empty
abbrev pub is_led : Shape → Bool
is_led (one x) = true
is_led word = true
is_led listed = true
is_led none = false
is_led (after p q) = grows p && is_led p
is_led (either p q) = is_led p && is_led q
is_led (perhaps p) = false
is_led (often p) = false
is_led (limited p) = is_led p
is_led (allowed p) = is_led p

abbrev pub is_name : Symbol → Bool
is_name Unreserved = true
is_name (Reserved k) = false
is_name (Sign k) = false

-- the same, and that part is told by its symbol and has no limit of its own but that of a name's bytes
abbrev pub is_plain : Shape → Bool
is_plain (one x) = not (is_name x)
is_plain word = true
is_plain listed = false
is_plain none = false
is_plain (after p q) = grows p && is_plain p
is_plain (either p q) = is_plain p && is_plain q
is_plain (perhaps p) = false
is_plain (often p) = false
is_plain (limited p) = false
is_plain (allowed p) = is_plain p

-- The next symbol tells how to go on.
abbrev pub is_told : Shape → Bool
is_told (one x) = true
is_told word = true
is_told listed = true
is_told none = true
is_told (after p q) = is_told p && (is_told q && are_apart (first q) (more p))
is_told (either p q) = is_told p && (is_told q && (is_led p && (grows p && (grows q && are_apart (first p) (first q)))))
is_told (perhaps p) = is_told p && (is_led p && grows p)
is_told (often p) = is_told p && (is_led p && (grows p && are_apart (first p) (more p)))
is_told (limited p) = is_told p && (grows p && is_plain p)
is_told (allowed p) = is_told p && grows p
