-- A token of the grammar is read as it stands.
use denote.Enum.Bare.{tag_one}
use denote.Enum.Declared.{tag_of}
use Rattle.std.proofs.Common.{◌≡◌, ℕ, zero, suc, ◌+◌, ◌*◌, ◌-◌, ◌<◌, Bool, true, false, cond, eqb, List, [], ◌∷◌, Option, Some, None, Ok, Err, refl, sym, ap, subst, ◌∙◌, inl, inr, arith}
use Rattle.std.specs.Prelude.{slice_get, position, IsTrue, ◌↔◌, ⊤}
use Rattle.std.specs.Str.{bytes_eq}
use Rattle.std.specs.Option.{option_map}
use Rattle.std.proofs.Math.Nat.{eq-or-lt_of_le}
use Rattle.std.proofs.lemmas.Option.{slice_get_within}
use Rattle.std.proofs.lemmas.Bool.{eqb-true, eq-eqb, ltb-true, ltb-false}
use Rattle.protocol_lexer.specs.declared.Token.{Token}
use Rattle.protocol_lexer.specs.contracts.TokenKind.{the_type as kind_type}
use Rattle.forms.specs.contracts.symbol.Keyword.{the_type as keyword_type}
use Rattle.forms.specs.declared.fault.What.{What}
use Rattle.forms.specs.declared.fault.What.TheVariants.{NameBytes}
use Rattle.forms.specs.declared.fault.SyntaxFault.TheVariants as Faults
use Rattle.forms.specs.declared.symbol.Symbol.{Symbol}
use Rattle.forms.specs.declared.symbol.Symbol.TheVariants.{Unreserved, Reserved, Sign}
use Rattle.forms.specs.Symbol.{Source, symbol, token_at, place_at, place_of, spelled}
use Rattle.forms.specs.declared.name.TheConstants.{MAX_NAME_BYTES}
use Rattle.forms.specs.Grammar.{IsAt, name_of}
use Rattle.forms.specs.Shape.{code, code_of_token, code_at, next_is}
use Rattle.forms.specs.Reading.{Reader, read_sign, read_name, read_named, read_word, read_found, read_among, read_one_of, is_too_long}
use Rattle.forms.proofs.Meaning.{Meaning, token, sign, name, one_of}
use Rattle.forms.proofs.Sets.{in_one}
use Rattle.forms.proofs.Laws.{Lawful, Done, Failed, Outcome, Reads}

same_place : (least m n : ℕ) → least + 2 * m ≡ least + 2 * n → m ≡ n
same_place least m n e = omega (arith, e)

even_or_odd : (m n : ℕ) → 2 + 2 * m ≡ 3 + 2 * n → ⊥
even_or_odd zero n e = omega (arith, e)
even_or_odd (suc m) zero e = omega (arith, e)
even_or_odd (suc m) (suc n) e = even_or_odd m n (omega (arith, e))

no_less : (a b n : ℕ) → a < b → a ≡ b + n → ⊥
no_less a b n less e = omega (arith, less, e)

codes_tell : (x y : Symbol) → code x ≡ code y → x ≡ y
unfolding code
codes_tell Unreserved Unreserved e = refl
codes_tell Unreserved (Reserved k) e = absurd (no_less 1 2 (2 * tag_of keyword_type k) (omega arith) e)
codes_tell Unreserved (Sign k) e = absurd (no_less 1 3 (2 * tag_of kind_type k) (omega arith) e)
codes_tell (Reserved j) Unreserved e = absurd (no_less 1 2 (2 * tag_of keyword_type j) (omega arith) (sym e))
codes_tell (Reserved j) (Reserved k) e = ap Reserved (tag_one keyword_type tt j k (same_place 2 (tag_of keyword_type j) (tag_of keyword_type k) e))
codes_tell (Reserved j) (Sign k) e = absurd (even_or_odd (tag_of keyword_type j) (tag_of kind_type k) e)
codes_tell (Sign j) Unreserved e = absurd (no_less 1 3 (2 * tag_of kind_type j) (omega arith) (sym e))
codes_tell (Sign j) (Reserved k) e = absurd (even_or_odd (tag_of keyword_type k) (tag_of kind_type j) (sym e))
codes_tell (Sign j) (Sign k) e = ap Sign (tag_one kind_type tt j k (same_place 3 (tag_of kind_type j) (tag_of kind_type k) e))

pub lacks_code : (x : Symbol) → 0 ≡ code x → ⊥
unfolding code
lacks_code Unreserved e = no_less 0 1 0 (omega arith) e
lacks_code (Reserved k) e = no_less 0 2 (2 * tag_of keyword_type k) (omega arith) e
lacks_code (Sign k) e = no_less 0 3 (2 * tag_of kind_type k) (omega arith) e

found_at : (x : Symbol) (o : Option (Symbol × Token)) → code_of_token o ≡ code x → (t : Token) × (o ≡ Some (x, t))
found_at x None e = absurd (lacks_code x e)
found_at x (Some p) e = (p.1, ap (λ (y : Symbol). Some (y, p.1)) (codes_tell p.0 x e))

pub found : (s : Source) (x : Symbol) (i : ℕ) → next_is s x i ≡ true → (t : Token) × IsAt s i x t
unfolding next_is code_at
found s x i h = found_at x (token_at s i) (eqb-true (code_of_token (token_at s i)) (code x) h)

pub code_is : (s : Source) (x : Symbol) (i : ℕ) (t : Token) → IsAt s i x t → code_at s i ≡ code x
unfolding code_at
code_is s x i t h = ap code_of_token h

pub is_next : (s : Source) (x : Symbol) (i : ℕ) (t : Token) → IsAt s i x t → next_is s x i ≡ true
unfolding next_is
is_next s x i t h = eq-eqb (code_at s i) (code x) (code_is s x i t h)

part_token : Token → Option (Symbol × Token) → Token
part_token t None = t
part_token t (Some p) = p.1

part_symbol : Symbol → Option (Symbol × Token) → Symbol
part_symbol x None = x
part_symbol x (Some p) = p.0

pub one_token : (s : Source) (i : ℕ) (x y : Symbol) (t u : Token) → IsAt s i x t → IsAt s i y u → t ≡ u
unfolding part_token
one_token s i x y t u h g = ap (part_token t) (sym h ∙ g)

with_symbol : List ℕ → Token → Symbol × Token
with_symbol text u = (symbol text u, u)

token_of_map : (text : List ℕ) (o : Option Token) (x : Symbol) (t : Token)
    → option_map (λ (u : Token). with_symbol text u) o ≡ Some (x, t) → o ≡ Some t
unfolding with_symbol part_token
token_of_map text None x t e = cc
token_of_map text (Some u) x t e = ap (λ (o : Option (Symbol × Token)). Some (part_token t o)) e

token_is : (s : Source) (i : ℕ) (x : Symbol) (t : Token) → IsAt s i x t → slice_get s.tokens i ≡ Some t
unfolding with_symbol
token_is s i x t h = token_of_map s.text (slice_get s.tokens i) x t h

-- a meaning that is one token; what passes a limit is that token
module _ (s : Source) (A : Type 0) (x : Symbol) (value : List ℕ → Token → A) (P : Source → What → ℕ → ℕ → Type 0)
    (up : (w : What) (i j : ℕ) → P s w i j → (j ≡ i + 1) × ((t : Token) × IsAt s i x t)) where
  token_lawful : Lawful s (token x value P) (code x ∷ [])
  unfolding token
  token_lawful = record {
    empty = λ i. inl refl;
    order = λ i j b. elim b [ inl e ↦ omega (arith, e) | inr p ↦ omega (arith, p.0) ];
    shorten = λ i k j b h g. elim (eq-or-lt_of_le h) [
      | inl e ↦ inl (sym e)
      | inr l ↦ elim b [
        | inl e ↦ absurd (omega (arith, e, l, g))
        | inr p ↦ inr (omega (arith, p.0, l, g), p.1)
      ]
    ];
    said = λ i j a p. inr (p.0, (p.1.0, p.1.1));
    passed = λ w i j p. let q = up w i j p in (inr (q.0, q.1), omega (arith, q.0));
    bound = λ i j b h. elim b [
      | inl e ↦ absurd (omega (arith, e))
      | inr p ↦ omega (arith, p.0, slice_get_within s.tokens i p.1.0 (token_is s i x p.1.0 p.1.1))
    ];
    starts = λ i j b h. elim b [
      | inl e ↦ absurd (omega (arith, e))
      | inr p ↦ in_one (code_at s i) (code x) (code_is s x i p.1.0 p.1.1)
    ];
  }

  token_grows : (i j : ℕ) (a : A) → (token x value P).Says s i j a → i < j
  unfolding token
  token_grows i j a p = omega (arith, p.0)

  -- the token is there
  token_done : (i : ℕ) (t : Token) → IsAt s i x t → ((w : What) (k : ℕ) → P s w i k → ⊥) → Done s (token x value P) [] i (value s.text t) (i + 1)
  unfolding token
  token_done i t h short = record {
    begun = record {
      begins = inr (refl, (t, h));
      clean = λ w k g p. short w k p;
      shorter = λ k a g p. absurd (omega (arith, p.0));
    };
    says = (refl, (t, h, refl));
    only = λ b p. p.1.2 ∙ ap (value s.text) (one_token s i x x p.1.0 t p.1.1 h);
    stops = λ b. elim b [ inl e ↦ omega (arith, e) | inr p ↦ omega (arith, p.0) ];
  }

  -- another token is there
  token_missing : (i : ℕ) → next_is s x i ≡ false → Failed s (token x value P) [] i (Faults.Unexpected (place_at s i)) i
  unfolding token
  token_missing i missing = record {
    begun = record {
      begins = inl refl;
      clean = λ w k g p. omega (arith, (up w i k p).0);
      shorter = λ k a g p. absurd (omega (arith, p.0));
    };
    wrong = inl (
      refl,
      λ b. elim b [
        | inl e ↦ omega (arith, e)
        | inr p ↦ let y = is_next s x i p.1.0 p.1.1 in let z : true ≡ false = sym y ∙ missing in absurd cc
      ],
    );
  }

sign_outcome : (s : Source) (x : Symbol) (i : ℕ) (b : Bool) → next_is s x i ≡ b
    → Outcome s (sign x) [] i (cond b (Ok (tt, i + 1)) (Err (Faults.Unexpected (place_at s i))))
sign_outcome s x i true h =
    let t = found s x i h in
    token_done s ⊤ x (λ _ _. tt) (λ source w i j. ⊥) (λ w i j p. absurd p) i t.0 t.1 (λ w k p. p)
sign_outcome s x i false h = (i, token_missing s ⊤ x (λ _ _. tt) (λ source w i j. ⊥) (λ w i j p. absurd p) i h)

pub sign_reads : (s : Source) (x : Symbol) → Reads s (sign x) true (code x ∷ []) [] (read_sign s x)
unfolding read_sign
sign_reads s x = record {
  lawful = token_lawful s ⊤ x (λ _ _. tt) (λ source w i j. ⊥) (λ w i j p. absurd p);
  growing = λ _. token_grows s ⊤ x (λ _ _. tt) (λ source w i j. ⊥) (λ w i j p. absurd p);
  reads = λ i. sign_outcome s x i (next_is s x i) refl;
}

place_is : (s : Source) (i : ℕ) (x : Symbol) (t : Token) → IsAt s i x t → t.place ≡ place_at s i
unfolding with_symbol
place_is s i x t h = sym (ap (place_of s.text) (token_of_map s.text (slice_get s.tokens i) x t h))

-- a name that is too long
abbrev LongAt : Source → What → ℕ → ℕ → Type 0
LongAt s w i j = (j ≡ i + 1) × ((t : Token) × IsAt s i Unreserved t × (MAX_NAME_BYTES < t.end - t.start) × (w ≡ NameBytes))

long_up : (s : Source) (w : What) (i j : ℕ) → LongAt s w i j → (j ≡ i + 1) × ((t : Token) × IsAt s i Unreserved t)
long_up s w i j p = (p.0, (p.1.0, p.1.1))

name_too_long : (s : Source) (i : ℕ) (t : Token) → IsAt s i Unreserved t → MAX_NAME_BYTES < t.end - t.start
    → Failed s name [] i (Faults.TooMany NameBytes t.place) i
unfolding token
name_too_long s i t h long = record {
  begun = record {
    begins = inl refl;
    clean = λ w k g p. omega (arith, p.0);
    shorter = λ k a g p. absurd (omega (arith, p.0));
  };
  wrong = inr (
    NameBytes,
    ap (Faults.TooMany NameBytes) (place_is s i Unreserved t h),
    inr (refl, (t, h)),
    (refl, (t, h, long, refl)),
    λ v p. p.1.3,
  );
}

word_outcome : (s : Source) (i : ℕ) (t : Token) (b : Bool) → IsAt s i Unreserved t → is_too_long t ≡ b
    → Outcome s name [] i (cond b (Err (Faults.TooMany NameBytes t.place)) (Ok (name_of s.text t, i + 1)))
word_outcome s i t true h e = (i, name_too_long s i t h (ltb-true MAX_NAME_BYTES (t.end - t.start) e))
word_outcome s i t false h e =
    token_done s _ Unreserved name_of LongAt (long_up s) i t h
    (λ w k p.
    let same = one_token s i Unreserved Unreserved p.1.0 t p.1.1 h in
    let long : MAX_NAME_BYTES < t.end - t.start = subst (λ (u : Token). MAX_NAME_BYTES < u.end - u.start) same p.1.2 in
    omega (arith, long, ltb-false MAX_NAME_BYTES (t.end - t.start) e))

not_next : (s : Source) (x : Symbol) (i : ℕ) (b : Bool) → next_is s x i ≡ b → ((t : Token) → IsAt s i x t → ⊥) → b ≡ false
not_next s x i true h lacks = let t = found s x i h in absurd (lacks t.0 t.1)
not_next s x i false h lacks = refl

name_missing : (s : Source) (i : ℕ) → ((t : Token) → IsAt s i Unreserved t → ⊥) → Failed s name [] i (Faults.Unexpected (place_at s i)) i
name_missing s i lacks =
    token_missing s _ Unreserved name_of LongAt (long_up s) i
    (not_next s Unreserved i (next_is s Unreserved i) refl lacks)

other_symbol : (s : Source) (i : ℕ) (x y : Symbol) (t : Token) → (y ≡ x → ⊥) → IsAt s i x t → (u : Token) → IsAt s i y u → ⊥
unfolding part_symbol
other_symbol s i x y t differ h u g = differ (ap (part_symbol x) (sym g ∙ h))

-- what is read of a name's token, where one is seen
named_outcome : (s : Source) {A : Type 0} (X : Meaning A) (x : Token → Reader A) (i : ℕ)
    → (((t : Token) → IsAt s i Unreserved t → ⊥) → Failed s X [] i (Faults.Unexpected (place_at s i)) i)
    → ((t : Token) → IsAt s i Unreserved t → Outcome s X [] i (x t i))
    → (o : Option (Symbol × Token)) → token_at s i ≡ o → Outcome s X [] i (read_named s x o i)
named_outcome s X x i missing seen None h = (i, missing (λ t g. let e : None ≡ Some (Unreserved, t) = sym h ∙ g in cc))
named_outcome s X x i missing seen (Some (Unreserved, t)) h = seen t h
named_outcome s X x i missing seen (Some (Reserved k, t)) h = (i, missing (other_symbol s i (Reserved k) Unreserved t (λ e. cc) h))
named_outcome s X x i missing seen (Some (Sign k, t)) h = (i, missing (other_symbol s i (Sign k) Unreserved t (λ e. cc) h))

pub name_reads : (s : Source) → Reads s name true (code Unreserved ∷ []) [] (read_name s)
unfolding read_name
name_reads s = record {
  lawful = token_lawful s _ Unreserved name_of LongAt (long_up s);
  growing = λ _. token_grows s _ Unreserved name_of LongAt (long_up s);
  reads = λ i. named_outcome s name (read_word s) i (name_missing s i) (λ t h. word_outcome s i t (is_too_long t) h refl) (token_at s i) refl;
}

-- one of some names
module _ (s : Source) (names : List (List ℕ)) where
  number : Token → Option ℕ
  number t = position (bytes_eq (spelled s.text t)) names

  one_of_lawful : Lawful s (one_of names) (code Unreserved ∷ [])
  unfolding one_of
  one_of_lawful = record {
    empty = λ i. inl refl;
    order = λ i j b. elim b [ inl e ↦ omega (arith, e) | inr p ↦ omega (arith, p.0) ];
    shorten = λ i k j b h g. elim (eq-or-lt_of_le h) [
      | inl e ↦ inl (sym e)
      | inr l ↦ elim b [
        | inl e ↦ absurd (omega (arith, e, l, g))
        | inr p ↦ inr (omega (arith, p.0, l, g), p.1)
      ]
    ];
    said = λ i j a p. inr (p.0, (p.1.0, p.1.1, (a, p.1.2)));
    passed = λ w i j p. absurd p;
    bound = λ i j b h. elim b [
      | inl e ↦ absurd (omega (arith, e))
      | inr p ↦ omega (arith, p.0, slice_get_within s.tokens i p.1.0 (token_is s i Unreserved p.1.0 p.1.1))
    ];
    starts = λ i j b h. elim b [
      | inl e ↦ absurd (omega (arith, e))
      | inr p ↦ in_one (code_at s i) (code Unreserved) (code_is s Unreserved i p.1.0 p.1.1)
    ];
  }

  one_of_grows : (i j : ℕ) (a : ℕ) → (one_of names).Says s i j a → i < j
  unfolding one_of
  one_of_grows i j a p = omega (arith, p.0)

  one_of_done : (i a : ℕ) (t : Token) → IsAt s i Unreserved t → number t ≡ Some a → Done s (one_of names) [] i a (i + 1)
  unfolding one_of number
  one_of_done i a t h e = record {
    begun = record {
      begins = inr (refl, (t, h, (a, e)));
      clean = λ w k g p. p;
      shorter = λ k b g p. absurd (omega (arith, p.0));
    };
    says = (refl, (t, h, e));
    only = λ b p. let g : Some b ≡ Some a = sym p.1.2 ∙ ap number (one_token s i Unreserved Unreserved p.1.0 t p.1.1 h) ∙ e in cc;
    stops = λ b. elim b [ inl g ↦ omega (arith, g) | inr p ↦ omega (arith, p.0) ];
  }

  one_of_failed : (i : ℕ) → ((t : Token) → IsAt s i Unreserved t → (a : ℕ) → number t ≡ Some a → ⊥)
      → Failed s (one_of names) [] i (Faults.Unexpected (place_at s i)) i
  unfolding one_of number
  one_of_failed i lacks = record {
    begun = record {
      begins = inl refl;
      clean = λ w k g p. p;
      shorter = λ k a g p. absurd (omega (arith, p.0));
    };
    wrong = inl (refl, λ b. elim b [ inl e ↦ omega (arith, e) | inr p ↦ lacks p.1.0 p.1.1 p.1.2.0 p.1.2.1 ]);
  }

  found_outcome : (i : ℕ) (t : Token) (o : Option ℕ) → IsAt s i Unreserved t → number t ≡ o → Outcome s (one_of names) [] i (read_found s o i)
  found_outcome i t None h e =
      (i, one_of_failed i (λ u g a k. let z : None ≡ Some a = sym e ∙ ap number (one_token s i Unreserved Unreserved t u h g) ∙ k in cc))
  found_outcome i t (Some a) h e = one_of_done i a t h e

  pub one_of_reads : Reads s (one_of names) true (code Unreserved ∷ []) [] (read_one_of s names)
  unfolding read_one_of number
  one_of_reads = record {
    lawful = one_of_lawful;
    growing = λ _. one_of_grows;
    reads = λ i. named_outcome s (one_of names) (read_among s names) i (λ lacks. one_of_failed i (λ t g a k. lacks t g))
        (λ t h. found_outcome i t (number t) h refl) (token_at s i) refl;
  }

codes_differ : (x y : Symbol) (d : Bool) → eqb (code x) (code y) ≡ d → (x ≡ y → ⊥) → false ≡ d
codes_differ x y true e differ = absurd (differ (codes_tell x y (eqb-true (code x) (code y) e)))
codes_differ x y false e differ = refl

pub same_code : (b : Bool) (x y : Symbol) → (IsTrue b ↔ (x ≡ y)) → b ≡ eqb (code x) (code y)
same_code true x y h = sym (eq-eqb (code x) (code y) (ap code (h.0 refl)))
same_code false x y h = codes_differ x y (eqb (code x) (code y)) refl (λ e. let f : false ≡ true = h.1 e in absurd cc)

pub not_zero : (x : Symbol) (d : Bool) → eqb 0 (code x) ≡ d → false ≡ d
not_zero x true e = absurd (lacks_code x (eqb-true 0 (code x) e))
not_zero x false e = refl

pub next_at : (s : Source) (i : ℕ) (b : Bool) (x y : Symbol) (t : Token) → b ≡ eqb (code y) (code x) → Some (y, t) ≡ token_at s i → b ≡ next_is s x i
unfolding next_is code_at
next_at s i b x y t e h = e ∙ ap (λ (o : Option (Symbol × Token)). eqb (code_of_token o) (code x)) h

pub next_none : (s : Source) (i : ℕ) (x : Symbol) → None ≡ token_at s i → false ≡ next_is s x i
unfolding next_is code_at
next_none s i x h = not_zero x (eqb 0 (code x)) refl ∙ ap (λ (o : Option (Symbol × Token)). eqb (code_of_token o) (code x)) h
