-- One form behind another.
use Rattle.std.specs.Prelude.{List, ◌∷◌}
use Rattle.forms.specs.declared.symbol.Symbol.{Symbol}
use Rattle.forms.specs.Grammar.{Grammar, sign, gives, ◌>>=◌}

-- a sequence of the one, and after it one of the other, with both meanings
abbrev pub both : {A B : Type 0} → Grammar A → Grammar B → Grammar (A × B)
both x y = do
  a ← x
  b ← y
  gives (a, b)

-- a symbol, and after it a sequence of the form, with its meaning alone
abbrev pub behind : {A : Type 0} → Symbol → Grammar A → Grammar A
behind symbol x = do
  first ← sign symbol
  x

-- a sequence of the form, and after it a symbol
abbrev pub ended : {A : Type 0} → Grammar A → Symbol → Grammar A
ended x symbol = do
  a ← x
  last ← sign symbol
  gives a

-- an item, and after it a list of more items
abbrev pub non_empty : {A : Type 0} → Grammar A → Grammar (List A) → Grammar (List A)
non_empty x y = do
  first ← x
  rest ← y
  gives (first ∷ rest)
