-- Parts of productions that a function of its own reads.
use Rattle.std.specs.Prelude.{ℕ, ◌-◌, List, ◌∷◌, nat_le}
use Rattle.forms.specs.declared.fault.What.TheVariants as Limits
use Rattle.forms.specs.declared.name.Name.{Name}
use Rattle.forms.specs.declared.symbol.Symbol.{Symbol}
use Rattle.forms.specs.Grammar.{Grammar, name, sign, gives, ◌>>=◌, item, up_to}
use Rattle.protocol_syntax.specs.declared.protocol.SectionText.{SectionText}
use Rattle.protocol_syntax.specs.declared.limits.TheConstants.{MAX_LETTERS}
use Rattle.protocol_syntax.specs.Grammar.{section, more_sections}

-- the sign that ends a form, which says this
abbrev pub ended : {A : Type 0} → Symbol → A → Grammar A
ended end said = do
  end ← sign end
  gives said

-- name { name }: the letters of a section, where the earlier sections have so many together
abbrev pub letters_behind : ℕ → Grammar (List Name)
letters_behind used = do
  letter ← item (nat_le MAX_LETTERS used) Limits.Letters name
  letters ← up_to (MAX_LETTERS - 1 - used) Limits.Letters name
  gives (letter ∷ letters)

-- section { section }
abbrev pub all_sections : ℕ → Grammar (List SectionText)
all_sections language = do
  first ← section language 0
  sections ← more_sections language first
  gives (first ∷ sections)
