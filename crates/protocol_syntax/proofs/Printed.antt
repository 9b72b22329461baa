-- Words that are written: they are tokens, and wherever they stand a form says them again, within the limits.
use denote.Enum.Bare.{sameb}
use Rattle.std.proofs.Common.{◌≡◌, ℕ, ◌+◌, ◌-◌, ◌<◌, Bool, true, false, List, [], ◌∷◌, ◌++◌, Option, Some, None, length, map, refl, sym, ap, subst, ◌∙◌, inl, inr, arith, slice_get, nat_le, position, append_assoc, append-nil, length-append}
use Rattle.std.proofs.lemmas.List.{length-map, map-append}
use Rattle.std.specs.Prelude.{⊤}
use Rattle.std.specs.List.{find, flat_map, list_all, AllByRecursion}
use Rattle.protocol_lexer.specs.Piece.{is_word_byte}
use Rattle.std.specs.Option.{option_map, unwrap_or}
use Rattle.std.specs.Str.{bytes_eq}
use Rattle.protocol_lexer.specs.declared.Token.{Token}
use Rattle.protocol_lexer.specs.declared.TokenKind.{TokenKind}
use Rattle.protocol_lexer.specs.declared.TokenKind.TheVariants.{Word}
use Rattle.forms.specs.declared.fault.What.{What}
use Rattle.forms.specs.declared.name.Name.{Name}
use Rattle.forms.specs.declared.symbol.Keyword.{Keyword}
use Rattle.forms.specs.declared.symbol.Keyword.TheVariants as Words
use Rattle.forms.specs.declared.symbol.Symbol.{Symbol}
use Rattle.forms.specs.declared.symbol.Symbol.TheVariants.{Unreserved, Reserved}
use Rattle.forms.specs.contracts.symbol.Keyword.{the_type}
use Rattle.forms.specs.Symbol.{Source, reserved_words, keyword_of, spelled, symbol, symbol_of_kind, symbol_of_keyword}
use Rattle.forms.specs.Grammar.{Grammar, sign, name, one_of, gives, ◌>>=◌, ◌or◌, optional, many, many_by, item, only, up_to, means, SaysMany, IsAt, name_of}
use Rattle.protocol_syntax.proofs.Lexing.{kind_of, kind_of_word, is_word, IsToken, IsToken-word, AreWords}
use Rattle.forms.proofs.ForCallers.{MayMean, AllAfter, IsName, SaysWithin}

abbrev symbol_of : List ℕ → Symbol
symbol_of w = symbol_of_kind w (kind_of w)

-- a word stands at an index
pub record HasWord (s : Source) (i : ℕ) (w : List ℕ) : Type 0 where
  pub spot : Token
  pub at : IsAt s i (symbol_of w) spot
  pub bytes : spelled s.text spot ≡ w
  pub size : spot.end - spot.start ≡ length w

-- the words stand from an index to another
abbrev pub HasWords : Source → ℕ → List (List ℕ) → ℕ → Type 0
HasWords s i [] k = k ≡ i
HasWords s i (w ∷ ws) k = HasWord s i w × HasWords s (i + 1) ws k

cut : (s : Source) (us vs : List (List ℕ)) (i k : ℕ) → HasWords s i (us ++ vs) k → (m : ℕ) × HasWords s i us m × HasWords s m vs k
cut s [] vs i k h = (i, refl, h)
cut s (u ∷ us) vs i k h = let rest = cut s us vs (i + 1) k h.1 in (rest.0, (h.0, rest.1), rest.2)

both_tokens : (us vs : List (List ℕ)) → AllByRecursion IsToken us → AllByRecursion IsToken vs → AllByRecursion IsToken (us ++ vs)
both_tokens [] vs h k = k
both_tokens (u ∷ us) vs h k = (h.0, both_tokens us vs h.1 k)

-- The words are tokens, and wherever they stand the form says something with the property, of which there is some.
pub record Prints {A : Type 0} (x : Grammar A) (P : A → Type 0) (ws : List (List ℕ)) : Type 0 where
  pub tokens : AllByRecursion IsToken ws
  pub some : (a : A) × P a
  pub says : (s : Source) (i k : ℕ) → HasWords s i ws k → (a : A) × SaysWithin x s i k a × P a

pub prints_sign : (x : Symbol) (w : List ℕ) → IsToken w → symbol_of w ≡ x → Prints (sign x) (λ _. ⊤) (w ∷ [])
prints_sign x w token e = record {
  tokens = (token, tt);
  some = (tt, tt);
  says = λ s i k h. (tt, (h.1, (h.0.spot, subst (λ (y : Symbol). IsAt s i y h.0.spot) e h.0.at, refl)), tt);
}

-- how a reserved word is written
abbrev pub spelling : Keyword → List ℕ
spelling k = unwrap_or (option_map (λ word. word.1) (find (λ word. sameb the_type word.0 k) reserved_words)) []

keyword_is_word : (k : Keyword) → (is_word (spelling k) ≡ true) × (symbol_of (spelling k) ≡ Reserved k)
unfolding keyword_of
keyword_is_word Words.Protocol = (refl, refl)
keyword_is_word _ = (refl, refl)

pub prints_keyword : (k : Keyword) → Prints (sign (Reserved k)) (λ _. ⊤) (spelling k ∷ [])
prints_keyword k = let is = keyword_is_word k in prints_sign (Reserved k) (spelling k) (IsToken-word (spelling k) is.0) is.1

name_is_word : (n : Name) → IsName n → is_word n.text ≡ true
name_is_word n is = of_bytes n.text is.some is.bytes
  where
    of_bytes : (bytes : List ℕ) → 0 < length bytes → list_all is_word_byte bytes ≡ true → is_word bytes ≡ true
    of_bytes [] some h = absurd (omega (arith, some))
    of_bytes (b ∷ bytes) some h = h

pub prints_name : (n : Name) → IsName n → Prints name (λ m. m.text ≡ n.text) (n.text ∷ [])
prints_name n is =
    let word = name_is_word n is in
    let kind : symbol_of n.text ≡ symbol_of_kind n.text Word = ap (λ (k : TokenKind). symbol_of_kind n.text k) (kind_of_word n.text word) in
    let free : symbol_of_keyword (keyword_of n.text) ≡ Unreserved = ap (λ (k : Option Keyword). symbol_of_keyword k) is.free in
    record {
      tokens = (IsToken-word n.text word, tt);
      some = (n, refl);
      says = λ s i k h. (
        name_of s.text h.0.spot,
        (h.1, (h.0.spot, subst (λ (y : Symbol). IsAt s i y h.0.spot) (kind ∙ free) h.0.at, omega (arith, h.0.size, is.short), refl)),
        h.0.bytes,
      );
    }

-- a name of a list
pub prints_one_of : (names : List (List ℕ)) (w : List ℕ) (a : ℕ) → is_word w ≡ true → keyword_of w ≡ None → position (bytes_eq w) names ≡ Some a
    → Prints (one_of names) (λ b. b ≡ a) (w ∷ [])
prints_one_of names w a word free is =
    let symbol : symbol_of w ≡ Unreserved =
    ap (λ (k : TokenKind). symbol_of_kind w k) (kind_of_word w word) ∙ ap (λ (k : Option Keyword). symbol_of_keyword k) free in
    record {
      tokens = (IsToken-word w word, tt);
      some = (a, refl);
      says = λ s i k h. (
        a,
        (h.1, (h.0.spot, subst (λ (y : Symbol). IsAt s i y h.0.spot) symbol h.0.at, ap (λ (v : List ℕ). position (bytes_eq v) names) h.0.bytes ∙ is)),
        refl,
      );
    }

pub prints_gives : {A : Type 0} {P : A → Type 0} (a : A) → P a → Prints (gives a) P []
prints_gives a p = record { tokens = tt; some = (a, p); says = λ s i k h. (a, (h, refl), p) }

pub prints_bind : {A B : Type 0} {x : Grammar A} {y : A → Grammar B} {P : A → Type 0} {Q : B → Type 0} {us vs : List (List ℕ)}
    → Prints x P us → ((a : A) → P a → Prints (y a) Q vs) → Prints (x >>= y) Q (us ++ vs)
prints_bind {A} {B} {x} {y} {P} {Q} {us} {vs} one two =
    let sample = two one.some.0 one.some.1 in
    record {
      tokens = both_tokens us vs one.tokens sample.tokens;
      some = sample.some;
      says = λ s i k h.
          let parts = cut s us vs i k h in
          let first = one.says s i parts.0 parts.1 in
          let second = (two first.0 first.2).says s parts.0 k parts.2 in
          (second.0, (parts.0, first.0, first.1, second.1), second.2);
    }

-- a form that says this alone, and what follows it
pub prints_fixed : {A B : Type 0} {x : Grammar A} {y : A → Grammar B} {Q : B → Type 0} {us vs : List (List ℕ)} (a : A)
    → Prints x (λ b. b ≡ a) us → Prints (y a) Q vs → Prints (x >>= y) Q (us ++ vs)
prints_fixed {A} {B} {x} {y} {Q} {us} {vs} a one two = prints_bind one (λ b e. subst (λ (c : A). Prints (y c) Q vs) (sym e) two)

-- a form, and what takes no words after it
pub prints_last : {A B : Type 0} {x : Grammar A} {y : A → Grammar B} {P : A → Type 0} {Q : B → Type 0} {us : List (List ℕ)}
    → Prints x P us → ((a : A) → P a → Prints (y a) Q []) → Prints (x >>= y) Q us
prints_last {A} {B} {x} {y} {P} {Q} {us} one two = subst (λ (ws : List (List ℕ)). Prints (x >>= y) Q ws) (append-nil us) (prints_bind one two)

-- words in another grouping
pub prints_assoc : {A : Type 0} {x : Grammar A} {P : A → Type 0} (us vs ws : List (List ℕ)) → Prints x P (us ++ (vs ++ ws)) → Prints x P ((us ++ vs) ++ ws)
prints_assoc {A} {x} {P} us vs ws r = subst (λ (all : List (List ℕ)). Prints x P all) (sym (append_assoc us vs ws)) r

-- a symbol, and what follows it
pub prints_after : {B : Type 0} {x : Symbol} {y : ⊤ → Grammar B} {Q : B → Type 0} {w : List ℕ} {vs : List (List ℕ)}
    → Prints (sign x) (λ _. ⊤) (w ∷ []) → Prints (y tt) Q vs → Prints (sign x >>= y) Q (w ∷ vs)
prints_after one two = prints_bind one (λ _ _. two)

pub prints_left : {A : Type 0} {x y : Grammar A} {P : A → Type 0} {ws : List (List ℕ)} → Prints x P ws → Prints (x or y) P ws
prints_left r = record { tokens = r.tokens; some = r.some; says = λ s i k h. let t = r.says s i k h in (t.0, inl t.1, t.2) }

pub prints_right : {A : Type 0} {x y : Grammar A} {P : A → Type 0} {ws : List (List ℕ)} → Prints y P ws → Prints (x or y) P ws
prints_right r = record { tokens = r.tokens; some = r.some; says = λ s i k h. let t = r.says s i k h in (t.0, inr t.1, t.2) }

pub prints_absent : {A : Type 0} {x : Grammar A} {P : A → Type 0} (absent : A) → P absent → Prints (optional absent x) P []
prints_absent absent p = record { tokens = tt; some = (absent, p); says = λ s i k h. (absent, inl (h, refl), p) }

pub prints_present : {A : Type 0} {x : Grammar A} {P : A → Type 0} {ws : List (List ℕ)} (absent : A) → Prints x P ws → Prints (optional absent x) P ws
prints_present absent r = record { tokens = r.tokens; some = r.some; says = λ s i k h. let t = r.says s i k h in (t.0, inr t.1, t.2) }

pub prints_item : {A : Type 0} {x : Grammar A} {P : A → Type 0} {ws : List (List ℕ)} (full : Bool) (what : What) → full ≡ false → Prints x P ws
    → Prints (item full what x) P ws
prints_item full what room r = record { tokens = r.tokens; some = r.some; says = λ s i k h. let t = r.says s i k h in (t.0, (room, t.1), t.2) }

pub prints_only : {A : Type 0} {x : Grammar A} {P : A → Type 0} {ws : List (List ℕ)} (allowed : Bool) → allowed ≡ true → Prints x P ws
    → Prints (only allowed x) P ws
prints_only allowed is r = record { tokens = r.tokens; some = r.some; says = λ s i k h. let t = r.says s i k h in (t.0, (is, t.1), t.2) }

pub prints_means : {A : Type 0} {P : A → Type 0} (k : Keyword) (a : A) → P a → Prints (means (Reserved k) a) P (spelling k ∷ [])
prints_means k a p = prints_after (prints_keyword k) (prints_gives a p)

-- items one after the other, each of which may depend on those before it
module _ {A : Type 0} (x : List A → Grammar A) (P : List A → A → Type 0) (words : A → List (List ℕ)) (without : A → A)
    (each : (before again : List A) → map without again ≡ map without before → (a : A) → P before a → Prints (x again) (λ b. without b ≡ without a) (words a)) where
  all_tokens : (values before : List A) → AllAfter P before values → AllByRecursion IsToken (flat_map words values)
  all_tokens [] before all = tt
  all_tokens (a ∷ values) before all =
      both_tokens (words a) (flat_map words values) (each before before refl a all.0).tokens (all_tokens values (before ++ a ∷ []) all.1)

  all_said : (s : Source) (values before again : List A) → map without again ≡ map without before → AllAfter P before values → (i k : ℕ)
      → HasWords s i (flat_map words values) k
      → (found : List A) × SaysMany (λ b. SaysWithin (x b) s) again i k found × (map without found ≡ map without values)
  all_said s [] before again e all i k h = ([], h, refl)
  all_said s (a ∷ values) before again e all i k h =
      let parts = cut s (words a) (flat_map words values) i k h in
      let first = (each before again e a all.0).says s i parts.0 parts.1 in
      let same : map without (again ++ first.0 ∷ []) ≡ map without (before ++ a ∷ []) =
      map-append without again (first.0 ∷ [])
      ∙ (ap (λ (l : List A). l ++ without first.0 ∷ []) e
      ∙ (ap (λ (b : A). map without before ++ b ∷ []) first.2 ∙ sym (map-append without before (a ∷ [])))) in
      let rest = all_said s values (before ++ a ∷ []) (again ++ first.0 ∷ []) same all.1 parts.0 k parts.2 in (
        first.0 ∷ rest.0,
        (parts.0, first.1, rest.1),
        ap (λ (b : A). b ∷ map without rest.0) first.2 ∙ ap (λ (l : List A). without a ∷ l) rest.2,
      )

  pub prints_all : (values : List A) → AllAfter P [] values → Prints (many_by x) (λ found. map without found ≡ map without values) (flat_map words values)
  prints_all values all = record {
    tokens = all_tokens values [] all;
    some = (values, refl);
    says = λ s i k h. all_said s values [] [] refl all i k h;
  }

-- What the form may say, its words say again, but for what is left out of it.
abbrev pub Writes : {A : Type 0} → Grammar A → (A → List (List ℕ)) → (A → A) → Type 0
Writes {A} x words without = (a : A) → MayMean x a → Prints x (λ b. without b ≡ without a) (words a)

pub same_length : {A : Type 0} (f : A → A) (xs ys : List A) → map f xs ≡ map f ys → length xs ≡ length ys
same_length f xs ys e = sym (length-map xs f) ∙ (ap length e ∙ length-map ys f)

pub writes_many : {A : Type 0} {x : Grammar A} {words : A → List (List ℕ)} {without : A → A} → Writes x words without
    → Writes (many x) (flat_map words) (map without)
writes_many {A} {x} {words} {without} w values all =
    prints_all (λ _. x) (λ _. MayMean x) words without (λ before again e a v. w a v) values all

pub writes_up_to : {A : Type 0} {x : Grammar A} {words : A → List (List ℕ)} {without : A → A} (limit : ℕ) (what : What) → Writes x words without
    → Writes (up_to limit what x) (flat_map words) (map without)
unfolding up_to
writes_up_to {A} {x} {words} {without} limit what w values all =
    prints_all (λ b. item (nat_le limit (length b)) what x) (λ b. MayMean (item (nat_le limit (length b)) what x)) words without
    (λ before again e a v.
    prints_item (nat_le limit (length again)) what (ap (nat_le limit) (same_length without again before e) ∙ v.0) (w a v.1))
    values all

-- the same of an equal value
pub prints_same : {A : Type 0} {x : Grammar A} (words : A → List (List ℕ)) (without : A → A) {a b : A} → b ≡ a
    → Prints x (λ c. without c ≡ without a) (words a) → Prints x (λ c. without c ≡ without b) (words b)
prints_same {A} {x} words without e r = subst (λ (c : A). Prints x (λ d. without d ≡ without c) (words c)) (sym e) r

seam : (before ts : List Token) (t : Token) → slice_get (before ++ (t ∷ ts)) (length before) ≡ Some t
seam [] ts t = refl
seam (b ∷ before) ts t = seam before ts t

-- tokens that are words stand from an index to the end
pub words_stand : (s : Source) (ws : List (List ℕ)) (before ts : List Token) (i : ℕ) → s.tokens ≡ before ++ ts → i ≡ length before
    → AreWords s.text ts ws → HasWords s i ws (length s.tokens)
words_stand s [] before [] i e d h = ap length e ∙ (ap length (append-nil before) ∙ sym d)
words_stand s [] before (t ∷ ts) i e d h = absurd h
words_stand s (w ∷ ws) before [] i e d h = absurd h
words_stand s (w ∷ ws) before (t ∷ ts) i e d h =
    let found : slice_get s.tokens i ≡ Some t =
    ap (λ (n : ℕ). slice_get s.tokens n) d ∙ (ap (λ (l : List Token). slice_get l (length before)) e ∙ seam before ts t) in
    let is : symbol s.text t ≡ symbol_of w = rw (h.0.bytes, h.0.kind) refl in
    let at : IsAt s i (symbol_of w) t =
    ap (λ (o : Option Token). option_map {U = Symbol × Token} (λ u. (symbol s.text u, u)) o) found ∙ ap (λ (x : Symbol). Some (x, t)) is in
    let here : HasWord s i w = record { spot = t; at = at; bytes = h.0.bytes; size = h.0.size } in
    let shift : s.tokens ≡ (before ++ t ∷ []) ++ ts = e ∙ sym (append_assoc before (t ∷ []) ts) in
    let index : i + 1 ≡ length (before ++ t ∷ []) = ap (λ (n : ℕ). n + 1) d ∙ sym (length-append before (t ∷ [])) in
    (here, words_stand s ws (before ++ t ∷ []) ts (i + 1) shift index h.1)
