-- The tokens that are taken lie in the text, one after the other.
use Rattle.std.proofs.Common.{◌≡◌, ℕ, zero, suc, slice_get, ◌+◌, ◌-◌, ◌≤◌, List, [], ◌∷◌, Option, Some, None, take, drop, length, refl, sym, ap, subst, arith, cond, Bool, true, false, eqb, one-add}
use Rattle.std.proofs.lemmas.List.{drop-drop, length-drop}
use Rattle.std.specs.List.{prefix_len, list_all, AllByRecursion}
use Rattle.protocol_lexer.specs.declared.Place.{Place}
use Rattle.protocol_lexer.specs.declared.Token.{Token}
use Rattle.protocol_lexer.specs.declared.TokenKind.{TokenKind}
use Rattle.protocol_lexer.specs.declared.TokenKind.TheVariants.{Word, BraceLeft, BraceRight, Colon, Semicolon, Star, Plus, Arrow}
use Rattle.protocol_lexer.specs.declared.Piece.{Piece}
use Rattle.protocol_lexer.specs.Piece.{piece, is_word_byte, is_white_space, kind_of_byte, arrow, byte_token, gap, token_of}
use Rattle.protocol_lexer.specs.Tokens.{Takes, AreTokens, LiesIn, AreInOrder, LieInOrder}
use Rattle.protocol_lexer.specs.Tokens.Takes.{nothing, after_gap, after_token}
use Rattle.protocol_lexer.proofs.Taking.{piece_length, some-none}

all_prefix_at : (p : ℕ → Bool) (x : ℕ) (xs : List ℕ) (b : Bool) → p x ≡ b → list_all p (take (prefix_len p xs) xs) ≡ true
    → list_all p (take (cond b (1 + prefix_len p xs) 0) (x ∷ xs)) ≡ true
all_prefix_at p x xs true h r = rw one-add (rw h r)
all_prefix_at p x xs false h r = refl

all_prefix : (p : ℕ → Bool) (xs : List ℕ) → list_all p (take (prefix_len p xs) xs) ≡ true
all_prefix p [] = refl
all_prefix p (x ∷ xs) = all_prefix_at p x xs (p x) refl (all_prefix p xs)

-- a word at the front has word bytes alone
abbrev IsWordy : List ℕ → Option Piece → Type 0
IsWordy bytes found = (n : ℕ) → found ≡ Some (record { kind = Some Word; length = n }) → list_all is_word_byte (take n bytes) ≡ true

IsWordy-cond : (bytes : List ℕ) (b : Bool) (x y : Option Piece) → IsWordy bytes x → IsWordy bytes y → IsWordy bytes (cond b x y)
IsWordy-cond bytes true x y f g = f
IsWordy-cond bytes false x y f g = g

piece_kind : Option Piece → Option TokenKind
piece_kind None = None
piece_kind (Some p) = p.kind

piece_size : Option Piece → ℕ
piece_size None = 0
piece_size (Some p) = p.length

not_word : TokenKind → Bool
not_word Word = false
not_word BraceLeft = true
not_word BraceRight = true
not_word Colon = true
not_word Semicolon = true
not_word Star = true
not_word Plus = true
not_word Arrow = true

IsWordy-gap : (bytes : List ℕ) (n : ℕ) → IsWordy bytes (gap n)
unfolding piece_kind
IsWordy-gap bytes n = λ m e. absurd (some-none Word (sym (ap piece_kind e)))

IsWordy-token : (bytes : List ℕ) (kind : TokenKind) (n : ℕ) → not_word kind ≡ true → IsWordy bytes (token_of kind n)
unfolding piece_kind not_word
IsWordy-token bytes kind n h = λ m e.
    let same : Some kind ≡ Some Word = ap piece_kind e in
    let is : kind ≡ Word = cc in
    let wrong : false ≡ true = subst (λ (k : TokenKind). not_word k ≡ true) is h in
    cc

IsWordy-word : (bytes : List ℕ) → IsWordy bytes (token_of Word (prefix_len is_word_byte bytes))
unfolding piece_size
IsWordy-word bytes = λ m e. subst (λ (k : ℕ). list_all is_word_byte (take k bytes) ≡ true) (ap piece_size e) (all_prefix is_word_byte bytes)

IsWordy-none : (bytes : List ℕ) → IsWordy bytes None
IsWordy-none bytes = λ m e. cc

IsWordy-arrow : (bytes after : List ℕ) → IsWordy bytes (arrow after)
unfolding not_word
IsWordy-arrow bytes [] = IsWordy-none bytes
IsWordy-arrow bytes (c ∷ after) = IsWordy-cond bytes (eqb c 62) _ _ (IsWordy-token bytes Arrow 2 refl) (IsWordy-none bytes)

IsWordy-byte_token : (bytes : List ℕ) (b : Bool) (x y : Option TokenKind) → IsWordy bytes (byte_token x) → IsWordy bytes (byte_token y)
    → IsWordy bytes (byte_token (cond b x y))
IsWordy-byte_token bytes true x y f g = f
IsWordy-byte_token bytes false x y f g = g

IsWordy-byte : (bytes : List ℕ) (b : ℕ) → IsWordy bytes (byte_token (kind_of_byte b))
unfolding not_word
IsWordy-byte bytes b =
    IsWordy-byte_token bytes (eqb b 123) _ _ (IsWordy-token bytes BraceLeft 1 refl) (
    IsWordy-byte_token bytes (eqb b 125) _ _ (IsWordy-token bytes BraceRight 1 refl) (
    IsWordy-byte_token bytes (eqb b 58) _ _ (IsWordy-token bytes Colon 1 refl) (
    IsWordy-byte_token bytes (eqb b 59) _ _ (IsWordy-token bytes Semicolon 1 refl) (
    IsWordy-byte_token bytes (eqb b 42) _ _ (IsWordy-token bytes Star 1 refl) (
    IsWordy-byte_token bytes (eqb b 43) _ _ (IsWordy-token bytes Plus 1 refl) (IsWordy-none bytes))))))

IsWordy-piece : (bytes : List ℕ) → IsWordy bytes (piece bytes)
unfolding piece
IsWordy-piece [] = IsWordy-none []
IsWordy-piece (b ∷ bytes) =
    IsWordy-cond (b ∷ bytes) (is_white_space b) _ _ (IsWordy-gap (b ∷ bytes) 1) (
    IsWordy-cond (b ∷ bytes) (eqb b 35) _ _ (IsWordy-gap (b ∷ bytes) _) (
    IsWordy-cond (b ∷ bytes) (is_word_byte b) _ _ (IsWordy-word (b ∷ bytes)) (
    IsWordy-cond (b ∷ bytes) (eqb b 45) _ _ (IsWordy-arrow (b ∷ bytes) bytes) (IsWordy-byte (b ∷ bytes) b))))

AreInOrder-before : (m n : ℕ) (ts : List Token) → m ≤ n → AreInOrder n ts → AreInOrder m ts
AreInOrder-before m n [] h o = tt
AreInOrder-before m n (t ∷ ts) h o = (omega (arith, o.0), o.1)

LiesIn-token : (text : List ℕ) (kind : TokenKind) (offset n : ℕ) (place : Place) → offset ≤ length text
    → piece (drop offset text) ≡ Some (record { kind = Some kind; length = n })
    → LiesIn text (record { kind = kind; start = offset; end = offset + n; place = place })
LiesIn-token text kind offset n place h e =
    let size = piece_length (drop offset text) (record { kind = Some kind; length = n }) e in
    record {
      some = omega (arith, size.0);
      within = omega (arith, size.1, length-drop offset text);
      word = λ is.
          let k : offset + n - offset ≡ n = omega arith in
          rw k (IsWordy-piece (drop offset text) n (subst (λ (k : TokenKind). piece (drop offset text) ≡ Some (record { kind = Some k; length = n })) is e));
    }

abbrev Lie : List ℕ → ℕ → List Token → Type 0
Lie text offset ts = AllByRecursion (LiesIn text) ts × AreInOrder offset ts

Takes-lie : (text b : List ℕ) (o : ℕ) (p : Place) (ts : List Token) (r : List ℕ) (e : Place)
    → Takes b o p ts r e → b ≡ drop o text → o ≤ length text → Lie text o ts
Takes-lie text b o p ts r e (nothing _ _ _) is h = (tt, tt)
Takes-lie text b o p ts r e (after_gap _ _ _ _ _ _ n q t) is h =
    let size = piece_length b (record { kind = None; length = n }) q in
    let more : drop n b ≡ drop (o + n) text = rw is (drop-drop n o text) in
    let in_text : o + n ≤ length text = omega (arith, size.1, ap length is, length-drop o text) in
    let l = Takes-lie text _ (o + n) _ ts r e t more in_text in
    (l.0, AreInOrder-before o (o + n) ts (omega arith) l.1)
Takes-lie text b o p _ r e (after_token _ _ _ k ts _ _ n kind q k-is t) is h =
    let size = piece_length b (record { kind = Some kind; length = n }) q in
    let more : drop n b ≡ drop (o + n) text = rw is (drop-drop n o text) in
    let in_text : o + n ≤ length text = omega (arith, size.1, ap length is, length-drop o text) in
    let l = Takes-lie text _ (o + n) _ ts r e t more in_text in
    let one = LiesIn-token text kind o n p h (subst (λ (bytes : List ℕ). piece bytes ≡ Some (record { kind = Some kind; length = n })) is q) in
    subst (λ (token : Token). Lie text o (token ∷ ts)) (sym k-is) ((one, l.0), (omega arith, l.1))

pub LieInOrder-taken : (text : List ℕ) (ts : List Token) → AreTokens text ts → LieInOrder text ts
LieInOrder-taken text ts t =
    let l = Takes-lie text text 0 _ ts [] t.0 t.1 refl (omega arith) in
    record { each = l.0; in_order = l.1 }

-- a token of a list whose tokens all lie in the text
pub lies_at : (text : List ℕ) (tokens : List Token) → AllByRecursion (LiesIn text) tokens → (i : ℕ) (t : Token)
    → slice_get tokens i ≡ Some t → LiesIn text t
lies_at text [] each i t e = absurd (cc e)
lies_at text (u ∷ tokens) each zero t e = let same : u ≡ t = cc e in subst (LiesIn text) same each.0
lies_at text (u ∷ tokens) each (suc i) t e = lies_at text tokens each.1 i t e
