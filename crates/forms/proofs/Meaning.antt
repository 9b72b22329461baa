-- What a grammar says, begins and passes, as one thing, and how that of a whole is made from those of its parts.
use Rattle.std.specs.Prelude.{◌≡◌, ◌<◌, ℕ, ◌+◌, ◌-◌, Bool, true, List, [], ⊤, ◌⊎◌}
use Rattle.protocol_lexer.specs.declared.Token.{Token}
use Rattle.forms.specs.declared.symbol.Symbol.{Symbol}
use Rattle.forms.specs.declared.symbol.Symbol.TheVariants.{Unreserved}
use Rattle.forms.specs.declared.fault.What.{What}
use Rattle.forms.specs.declared.fault.What.TheVariants.{NameBytes}
use Rattle.forms.specs.declared.name.Name.{Name}
use Rattle.forms.specs.Symbol.{Source}
use Rattle.forms.specs.declared.name.TheConstants.{MAX_NAME_BYTES}
use Rattle.forms.specs.Grammar.{Grammar, Says, Begins, Passes, IsAt, IsNumber, name_of}
use Rattle.forms.specs.Grammar as G

pub record Meaning (A : Type 0) : Type 1 where
  pub Says : Source → ℕ → ℕ → A → Type 0
  pub Begins : Source → ℕ → ℕ → Type 0
  pub Passes : Source → What → ℕ → ℕ → Type 0

-- the meaning of a grammar
abbrev pub meaning : {A : Type 0} → Grammar A → Meaning A
meaning g = record { Says = Says g; Begins = Begins g; Passes = Passes g }

unfoldable pub token : {A : Type 0} → Symbol → (List ℕ → Token → A) → (Source → What → ℕ → ℕ → Type 0) → Meaning A
token x value passes = record {
  Says = λ source i j a. (j ≡ i + 1) × ((t : Token) × IsAt source i x t × (a ≡ value source.text t));
  Begins = λ source i j. (j ≡ i) ⊎ ((j ≡ i + 1) × ((t : Token) × IsAt source i x t));
  Passes = passes;
}

abbrev pub sign : Symbol → Meaning ⊤
sign x = token x (λ _ _. tt) (λ source w i j. ⊥)

abbrev pub name : Meaning Name
name = token Unreserved name_of
    (λ source w i j. (j ≡ i + 1) × ((t : Token) × IsAt source i Unreserved t × (MAX_NAME_BYTES < t.end - t.start) × (w ≡ NameBytes)))

unfoldable pub one_of : List (List ℕ) → Meaning ℕ
one_of names = record {
  Says = λ source i j a. (j ≡ i + 1) × ((t : Token) × IsAt source i Unreserved t × IsNumber names source.text t a);
  Begins = λ source i j. (j ≡ i) ⊎ ((j ≡ i + 1) × ((t : Token) × IsAt source i Unreserved t × ((a : ℕ) × IsNumber names source.text t a)));
  Passes = λ source w i j. ⊥;
}

unfoldable pub gives : {A : Type 0} → A → Meaning A
gives a = record {
  Says = λ source i j b. (j ≡ i) × (b ≡ a);
  Begins = λ source i j. j ≡ i;
  Passes = λ source w i j. ⊥;
}

infixl 10 ◌>>=◌
unfoldable pub ◌>>=◌ : {A B : Type 0} → Meaning A → (A → Meaning B) → Meaning B
◌>>=◌ {A} {B} x y = record {
  Says = λ source i j b. (k : ℕ) × (a : A) × x.Says source i k a × (y a).Says source k j b;
  Begins = λ source i j. x.Begins source i j ⊎ ((k : ℕ) × (a : A) × x.Says source i k a × (y a).Begins source k j);
  Passes = λ source w i j. x.Passes source w i j ⊎ ((k : ℕ) × (a : A) × x.Says source i k a × (y a).Passes source w k j);
}

infixl 8 ◌or◌
unfoldable pub ◌or◌ : {A : Type 0} → Meaning A → Meaning A → Meaning A
x or y = record {
  Says = λ source i j a. x.Says source i j a ⊎ y.Says source i j a;
  Begins = λ source i j. x.Begins source i j ⊎ y.Begins source i j;
  Passes = λ source w i j. x.Passes source w i j ⊎ y.Passes source w i j;
}

unfoldable pub optional : {A : Type 0} → A → Meaning A → Meaning A
optional absent x = record {
  Says = λ source i j a. ((j ≡ i) × (a ≡ absent)) ⊎ x.Says source i j a;
  Begins = λ source i j. (j ≡ i) ⊎ x.Begins source i j;
  Passes = λ source w i j. x.Passes source w i j;
}

abbrev pub SaysMany : {A : Type 0} → (List A → Meaning A) → Source → List A → ℕ → ℕ → List A → Type 0
SaysMany x source before i j values = G.SaysMany (λ b. (x b).Says source) before i j values

unfoldable pub many_by : {A : Type 0} → (List A → Meaning A) → Meaning (List A)
many_by {A} x = record {
  Says = λ source i j values. SaysMany x source [] i j values;
  Begins = λ source i j. (j ≡ i) ⊎ ((k : ℕ) × (values : List A) × SaysMany x source [] i k values × (x values).Begins source k j);
  Passes = λ source w i j. (k : ℕ) × (values : List A) × SaysMany x source [] i k values × (x values).Passes source w k j;
}

unfoldable pub item : {A : Type 0} → Bool → What → Meaning A → Meaning A
item full what x = record {
  Says = x.Says;
  Begins = x.Begins;
  Passes = λ source w i j. x.Passes source w i j
      ⊎ ((full ≡ true) × (w ≡ what) × (j ≡ i + 1) × x.Begins source i j × (x.Passes source NameBytes i j → ⊥));
}

unfoldable pub only : {A : Type 0} → Bool → Meaning A → Meaning A
only allowed x = record {
  Says = λ source i j a. (allowed ≡ true) × x.Says source i j a;
  Begins = λ source i j. (j ≡ i) ⊎ ((allowed ≡ true) × x.Begins source i j);
  Passes = λ source w i j. (allowed ≡ true) × x.Passes source w i j;
}
