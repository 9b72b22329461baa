-- What holds of every meaning that a text says within the limits: the grammar without its tokens.
use Rattle.std.proofs.Common.{◌≡◌, ◌<◌, ◌≤◌, ◌+◌, ◌-◌, ℕ, Bool, true, false, List, [], ◌∷◌, ◌++◌, Option, Some, None, length, drop, refl, sym, ap, subst, inl, inr, ◌⊎◌, arith, slice_get, append_assoc, append-nil, length-drop}
use Rattle.std.proofs.lemmas.Option.{slice_get_within}
use Rattle.std.proofs.lemmas.Bool.{cases_lt, and_parts}
use Rattle.std.proofs.lemmas.List.{length-take-le}
use Rattle.std.proofs.lemmas.List.Quantifiers.{position-Some}
use Rattle.std.specs.Str.{bytes_eq}
use Rattle.std.specs.Prelude.{⊤}
use Rattle.std.specs.List.{list_all, slice_range}
use Rattle.std.specs.Option.{option_map}
use Rattle.protocol_lexer.specs.declared.Token.{Token}
use Rattle.protocol_lexer.specs.declared.TokenKind.{TokenKind}
use Rattle.protocol_lexer.specs.declared.TokenKind.TheVariants.{Word, BraceLeft, BraceRight, Colon, Semicolon, Star, Plus, Arrow}
use Rattle.protocol_lexer.specs.Piece.{is_word_byte}
use Rattle.protocol_lexer.specs.Tokens.{AreTokens, LiesIn}
use Rattle.protocol_lexer.proofs.ForCallers.{LieInOrder-taken, lies_at}
use Rattle.forms.specs.declared.fault.What.{What}
use Rattle.forms.specs.declared.fault.What.TheVariants.{NameBytes}
use Rattle.forms.specs.declared.name.Name.{Name}
use Rattle.forms.specs.declared.symbol.Keyword.{Keyword}
use Rattle.forms.specs.declared.symbol.Symbol.{Symbol}
use Rattle.forms.specs.declared.symbol.Symbol.TheVariants.{Unreserved}
use Rattle.forms.specs.Symbol.{Source, source_of, symbol, symbol_of_kind, symbol_of_keyword, keyword_of, spelled}
use Rattle.forms.specs.Grammar.{Grammar, sign, name, one_of, gives, ◌>>=◌, ◌or◌, optional, many_by, item, only, Says, SaysMany, Passes, IsWithin}
use Rattle.forms.specs.Shape.{Shape, one, word, listed, none, after, either, perhaps, often, limited, allowed, HasShape, IsUniform, shape, grows, is_told}
use Rattle.forms.proofs.Tells.{law}

-- a name is a word that is not reserved, of 32 bytes at most
pub record IsName (n : Name) : Type 0 where
  pub free : keyword_of n.text ≡ None
  pub some : 0 < length n.text
  pub bytes : list_all is_word_byte n.text ≡ true
  pub short : length n.text ≤ 32

-- each value has the property, which may speak of the values before it
abbrev pub AllAfter : {A : Type 0} → (List A → A → Type 0) → List A → List A → Type 0
AllAfter P before [] = ⊤
AllAfter P before (a ∷ values) = P before a × AllAfter P (before ++ a ∷ []) values

-- some tokens may say this by the form, within the limits
abbrev pub MayMean : {A : Type 0} → Grammar A → A → Type 0
MayMean (sign x) a = ⊤
MayMean name n = IsName n
MayMean (one_of names) a = a < length names
MayMean (gives b) a = a ≡ b
MayMean (x >>= y) b = (a : _) × MayMean x a × MayMean (y a) b
MayMean (x or y) a = MayMean x a ⊎ MayMean y a
MayMean (optional absent x) a = (a ≡ absent) ⊎ MayMean x a
MayMean (many_by x) values = AllAfter (λ before. MayMean (x before)) [] values
MayMean (item full what x) a = (full ≡ false) × MayMean x a
MayMean (only may x) a = (may ≡ true) × MayMean x a

-- no item of the form from i on is past a limit
abbrev Quiet : {A : Type 0} → Grammar A → Source → ℕ → Type 0
Quiet g s i = (w : What) (k : ℕ) → k ≤ length s.tokens → Passes g s w i k → ⊥

-- the tokens of a source lie in its text
abbrev Lies : Source → Type 0
Lies s = (i : ℕ) (t : Token) → slice_get s.tokens i ≡ Some t → LiesIn s.text t

found : (s : Source) (x : Symbol) (t : Token) (o : Option Token)
    → option_map {U = Symbol × Token} (λ u. (symbol s.text u, u)) o ≡ Some (x, t) → (o ≡ Some t) × (symbol s.text t ≡ x)
found s x t None e = absurd cc
found s x t (Some u) e =
    let pair : (symbol s.text u, u) ≡ (x, t) = cc in
    let same : u ≡ t = ap (λ (p : Symbol × Token). p.1) pair in
    (ap Some same, subst (λ (v : Token). symbol s.text v ≡ x) same (ap (λ (p : Symbol × Token). p.0) pair))

within : (tokens : List Token) (i : ℕ) (t : Token) → slice_get tokens i ≡ Some t → i + 1 ≤ length tokens
within tokens i t e = let less = slice_get_within tokens i t e in omega (arith, less)

free_keyword : (k : Option Keyword) → symbol_of_keyword k ≡ Unreserved → k ≡ None
free_keyword None e = refl
free_keyword (Some k) e = absurd cc

name_kind : (bytes : List ℕ) (kind : TokenKind) → symbol_of_kind bytes kind ≡ Unreserved → (kind ≡ Word) × (keyword_of bytes ≡ None)
name_kind bytes Word e = (refl, free_keyword (keyword_of bytes) e)
name_kind bytes BraceLeft e = absurd cc
name_kind bytes BraceRight e = absurd cc
name_kind bytes Colon e = absurd cc
name_kind bytes Semicolon e = absurd cc
name_kind bytes Star e = absurd cc
name_kind bytes Plus e = absurd cc
name_kind bytes Arrow e = absurd cc

range_length : (text : List ℕ) (a b : ℕ) → a ≤ b → b ≤ length text → length (slice_range text a b) ≡ b - a
range_length text a b h g = length-take-le (b - a) (drop a text) (omega (arith, length-drop a text))

not_more : (a b : ℕ) → (b < a → ⊥) → a ≤ b
not_more a b h = elim (cases_lt b a) [ inl l ↦ absurd (h l) | inr l ↦ l ]

name_is : (s : Source) → Lies s → (i j : ℕ) (a : Name) → Says name s i j a → Quiet name s i → IsName a
name_is s lies i j a (e, (t, at, is)) quiet =
    let there = found s Unreserved t (slice_get s.tokens i) at in
    let lie = lies i t there.0 in
    let kind = name_kind (spelled s.text t) t.kind there.1 in
    let long : length (spelled s.text t) ≡ t.end - t.start = range_length s.text t.start t.end (omega (arith, lie.some)) lie.within in
    subst IsName (sym is) (record {
      free = kind.1;
      some = omega (arith, long, lie.some);
      bytes = lie.word kind.0;
      short =
          let fits : t.end - t.start ≤ 32 = not_more (t.end - t.start) 32 (λ much. quiet NameBytes (i + 1) (within s.tokens i t there.0) (refl, (t, at, much, refl))) in
          omega (arith, long, fits);
    })

all_mean : (s : Source) {A : Type 0} (x : List A → Grammar A)
    → ((before : List A) (i j : ℕ) (a : A) → Says (x before) s i j a → Quiet (x before) s i → MayMean (x before) a)
    → (values before : List A) (i j : ℕ) → SaysMany (λ b. Says (x b) s) before i j values
    → ((values : List A) (k : ℕ) → SaysMany (λ b. Says (x b) s) before i k values → Quiet (x (before ++ values)) s k)
    → AllAfter (λ b. MayMean (x b)) before values
all_mean s x each [] before i j says quiet = tt
all_mean s {A} x each (a ∷ values) before i j (k, says, rest) quiet = (
  each before i k a says (subst (λ (b : List A). Quiet (x b) s i) (append-nil before) (quiet [] i refl)),
  all_mean s x each values (before ++ a ∷ []) k j rest
      (λ more m t. subst (λ (b : List A). Quiet (x b) s m) (sym (append_assoc before (a ∷ []) more)) (quiet (a ∷ more) m (k, says, t))),
)

-- an item that is past no limit has room
room : (s : Source) {A : Type 0} (x : Grammar A) (p : Shape) → HasShape x p → is_told p ≡ true → grows p ≡ true → (full : Bool) (what : What) (i j : ℕ) (a : A)
    → Says x s i j a → Quiet (item full what x) s i → full ≡ false
room s x p h t g false what i j a says quiet = refl
room s x p h t g true what i j a says quiet =
    let r = (law s x p h t).reads in
    let longer = r.growing g i j a says in
    let begun = r.lawful.said i j a says in
    let begins = r.lawful.shorten i (i + 1) j begun (omega arith) (omega (arith, longer)) in
    let bound : i + 1 ≤ length s.tokens = omega (arith, longer, r.lawful.bound i j begun longer) in
    absurd (quiet what (i + 1) bound (inr (refl, refl, refl, begins, λ q. quiet NameBytes (i + 1) bound (inl q))))

-- the law of all grammars in which the next symbol tells how to go on
pub may_mean : (s : Source) → Lies s → {A : Type 0} (g : Grammar A) (p : Shape) → HasShape g p → is_told p ≡ true → (i j : ℕ) (a : A)
    → Says g s i j a → Quiet g s i → MayMean g a
may_mean s lies (sign x) (one y) h t i j a says quiet = tt
may_mean s lies name word h t i j a says quiet = name_is s lies i j a says quiet
may_mean s lies (one_of names) listed h t i j a (e, (token, at, is)) quiet = (position-Some (bytes_eq (spelled s.text token)) names a [] is).0
may_mean s lies (gives b) none h t i j a says quiet = says.1
may_mean s lies (x >>= y) (after p q) h t i j b (k, a, u, v) quiet =
    let told = and_parts (is_told p) _ t in (
      a,
      may_mean s lies x p h.0 told.0 i k a u (λ w m l r. quiet w m l (inl r)),
      may_mean s lies (y a) q (h.1 a) (and_parts (is_told q) _ told.1).0 k j b v (λ w m l r. quiet w m l (inr (k, a, u, r))),
    )
may_mean s lies (x or y) (either p q) h t i j a (inl says) quiet =
    inl (may_mean s lies x p h.0 (and_parts (is_told p) _ t).0 i j a says (λ w m l r. quiet w m l (inl r)))
may_mean s lies (x or y) (either p q) h t i j a (inr says) quiet =
    inr (may_mean s lies y q h.1 (and_parts (is_told q) _ (and_parts (is_told p) _ t).1).0 i j a says (λ w m l r. quiet w m l (inr r)))
may_mean s lies (optional absent x) (perhaps p) h t i j a (inl says) quiet = inl says.1
may_mean s lies (optional absent x) (perhaps p) h t i j a (inr says) quiet = inr (may_mean s lies x p h (and_parts (is_told p) _ t).0 i j a says quiet)
may_mean s lies (many_by x) (often p) h t i j values says quiet =
    all_mean s x (λ before i j a. may_mean s lies (x before) p (h before) (and_parts (is_told p) _ t).0 i j a) values [] i j says
    (λ more k says w m l r. quiet w m l (k, more, says, r))
may_mean s lies (item full what x) (limited p) h t i j a says quiet =
    let told = and_parts (is_told p) _ t in (
      room s x p h told.0 (and_parts (grows p) _ told.1).0 full what i j a says quiet,
      may_mean s lies x p h told.0 i j a says (λ w m l r. quiet w m l (inl r)),
    )
may_mean s lies (only b x) (allowed p) h t i j a (may, says) quiet =
    (may, may_mean s lies x p h (and_parts (is_told p) _ t).0 i j a says (λ w m l r. quiet w m l (may, r)))
may_mean s lies _ _ h t i j a says quiet = absurd h

-- what the tokens of a text say within the limits may be said
pub within_may_mean : (text : List ℕ) (tokens : List Token) → AreTokens text tokens → {A : Type 0} (g : Grammar A) → IsUniform g → is_told (shape g) ≡ true
    → (a : A) → IsWithin g (source_of text tokens) a → MayMean g a
within_may_mean text tokens are g uniform told a within =
    may_mean (source_of text tokens) (lies_at text tokens (LieInOrder-taken text tokens are).each) g (shape g) uniform told 0 (length tokens) a
    within.says within.within
