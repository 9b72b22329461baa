-- What reading a grammar answers: a meaning and the index of the next token, or a fault.
use Rattle.std.specs.Prelude.{◌≡◌, ℕ, zero, suc, ◌+◌, ◌-◌, Bool, false, not, ◌&&◌, ◌||◌, List, [], ◌∷◌, ◌++◌, length, Option, Some, None, Result, Ok, Err, nat_lt, position, if◌then◌else◌, ⊤}
use Rattle.std.specs.Str.{bytes_eq}
use Rattle.protocol_lexer.specs.declared.Token.{Token}
use Rattle.forms.specs.declared.symbol.Symbol.{Symbol}
use Rattle.forms.specs.declared.symbol.Symbol.TheVariants.{Unreserved, Reserved, Sign}
use Rattle.forms.specs.declared.fault.What.{What}
use Rattle.forms.specs.declared.fault.What.TheVariants.{NameBytes}
use Rattle.forms.specs.declared.fault.SyntaxFault.{SyntaxFault}
use Rattle.forms.specs.declared.fault.SyntaxFault.TheVariants as Faults
use Rattle.forms.specs.declared.name.Name.{Name}
use Rattle.forms.specs.declared.name.TheConstants.{MAX_NAME_BYTES}
use Rattle.forms.specs.Symbol.{Source, token_at, place_at, spelled}
use Rattle.forms.specs.Grammar.{Grammar, sign, name, one_of, gives, ◌>>=◌, ◌or◌, optional, many_by, item, only, name_of}
use Rattle.forms.specs.Shape.{next_is}

abbrev pub Answer : Type 0 → Type 0
Answer A = Result (A × ℕ) SyntaxFault

-- a reader begins at the token with an index
abbrev pub Reader : Type 0 → Type 0
Reader A = ℕ → Answer A

-- what is read after a first answer
abbrev pub follow : {A B : Type 0} → Answer A → (A → Reader B) → Answer B
follow (Ok p) y = y p.0 p.1
follow (Err e) y = Err e

-- the one reader, and then the other
unfoldable pub read_then : {A B : Type 0} → Reader A → (A → Reader B) → Reader B
read_then x y = λ i. follow (x i) y

abbrev pub unexpected : {A : Type 0} → Source → ℕ → Answer A
unexpected source i = Err (Faults.Unexpected (place_at source i))

unfoldable pub read_sign : Source → Symbol → Reader ⊤
read_sign source x i = if next_is source x i then Ok (tt, i + 1) else unexpected source i

-- what is read of a name's token, where one is seen
abbrev pub read_named : {A : Type 0} → Source → (Token → Reader A) → Option (Symbol × Token) → Reader A
read_named source x None i = unexpected source i
read_named source x (Some (Unreserved, t)) i = x t i
read_named source x (Some (Reserved k, t)) i = unexpected source i
read_named source x (Some (Sign k, t)) i = unexpected source i

-- whether a name's token is too long
abbrev pub is_too_long : Token → Bool
is_too_long t = nat_lt MAX_NAME_BYTES (t.end - t.start)

abbrev pub read_word : Source → Token → Reader Name
read_word source t i = if is_too_long t then Err (Faults.TooMany NameBytes t.place) else Ok (name_of source.text t, i + 1)

unfoldable pub read_name : Source → Reader Name
read_name source i = read_named source (read_word source) (token_at source i) i

-- the number of a name, where it has one
abbrev pub read_found : Source → Option ℕ → Reader ℕ
read_found source None i = unexpected source i
read_found source (Some a) i = Ok (a, i + 1)

abbrev pub read_among : Source → List (List ℕ) → Token → Reader ℕ
read_among source names t i = read_found source (position (bytes_eq (spelled source.text t)) names) i

unfoldable pub read_one_of : Source → List (List ℕ) → Reader ℕ
read_one_of source names i = read_named source (read_among source names) (token_at source i) i

abbrev pub is_long : Option (Symbol × Token) → Bool
is_long None = false
is_long (Some (Unreserved, t)) = is_too_long t
is_long (Some (Reserved k, t)) = false
is_long (Some (Sign k, t)) = false

-- whether a name that is too long stands at an index
unfoldable pub is_long_at : Source → ℕ → Bool
is_long_at source i = is_long (token_at source i)

-- The reader, where room may be left for no more.
unfoldable pub read_item : {A : Type 0} → Source → Bool → (ℕ → Bool) → What → Reader A → Reader A
read_item source full starts what x i =
    if full && (starts i && not (is_long_at source i)) then Err (Faults.TooMany what (place_at source i)) else x i

-- the one reader where the test holds, and else the other
unfoldable pub read_or : {A : Type 0} → (ℕ → Bool) → Reader A → Reader A → Reader A
read_or t x y i = if t i then x i else y i

-- the reader where the test holds, and else nothing, with this meaning
unfoldable pub read_optional : {A : Type 0} → (ℕ → Bool) → A → Reader A → Reader A
read_optional t absent x i = if t i then x i else Ok (absent, i)

-- the reader where this is true, and else nothing can stand there
unfoldable pub read_only : {A : Type 0} → Source → Bool → Reader A → Reader A
read_only source allowed x i = if allowed then x i else unexpected source i

-- None or more, as long as the next begins; each may depend on those before it. There are no more than so many.
unfoldable pub read_many : {A : Type 0} → ℕ → (List A → ℕ → Bool) → (List A → Reader A) → List A → Reader (List A)
read_many zero test x before i = Ok (before, i)
read_many (suc n) test x before i =
    if test before i then follow (x before i) (λ a j. read_many n test x (before ++ a ∷ []) j) else Ok (before, i)

-- as many as there are, and there are no more than tokens
unfoldable pub read_all : {A : Type 0} → Source → (List A → ℕ → Bool) → (List A → Reader A) → Reader (List A)
read_all source test x i = read_many (length source.tokens) test x [] i

-- whether the symbol at an index begins a sequence; what is never asked so is false
abbrev pub begins : {A : Type 0} → Grammar A → Source → ℕ → Bool
begins (sign x) source i = next_is source x i
begins name source i = next_is source Unreserved i
begins (one_of names) source i = next_is source Unreserved i
begins (gives a) source i = false
begins (x >>= y) source i = begins x source i
begins (x or y) source i = begins x source i || begins y source i
begins (optional absent x) source i = false
begins (many_by x) source i = false
begins (item full what x) source i = begins x source i
begins (only allowed x) source i = allowed && begins x source i

-- what reading a grammar answers, with one token of lookahead
abbrev pub read : {A : Type 0} → Source → Grammar A → Reader A
read source (sign x) = read_sign source x
read source name = read_name source
read source (one_of names) = read_one_of source names
read source (gives a) = λ i. Ok (a, i)
read source (x >>= y) = read_then (read source x) (λ a. read source (y a))
read source (x or y) = read_or (begins x source) (read source x) (read source y)
read source (optional absent x) = read_optional (begins x source) absent (read source x)
read source (many_by x) = read_all source (λ before. begins (x before) source) (λ before. read source (x before))
read source (item full what x) = read_item source full (begins x source) what (read source x)
read source (only allowed x) = read_only source allowed (read source x)

-- A result of the code is the answer that the reader gives, unless memory ran out.
abbrev pub Fails : {A : Type 0} → SyntaxFault → Answer A → Type 0
Fails Faults.Memory answer = Unit {0}
Fails (Faults.BadByte place) answer = answer ≡ Err (Faults.BadByte place)
Fails (Faults.Unexpected place) answer = answer ≡ Err (Faults.Unexpected place)
Fails (Faults.TooMany what place) answer = answer ≡ Err (Faults.TooMany what place)

abbrev pub Gives : {A : Type 0} → Answer A → ℕ → Result A SyntaxFault → Type 0
Gives answer next (Ok a) = answer ≡ Ok (a, next)
Gives answer next (Err e) = Fails e answer

-- what a function that reads the grammar returns, where it began at one index and ended at another
abbrev pub IsRead : {A : Type 0} → Grammar A → Source → ℕ → ℕ → Result A SyntaxFault → Type 0
IsRead g source from to result = Gives (read source g from) to result
