-- Taking the pieces of a text one after the other.
use Rattle.std.proofs.Common.{◌≡◌, ◌≢◌, ◌⊎◌, inl, inr, ℕ, zero, suc, ◌+◌, ◌≤◌, ◌<◌, List, [], ◌∷◌, ◌++◌, Option, Some, None, take, drop, length, refl, sym, ap, subst, ◌∙◌, append_assoc, arith, cond, Bool, true, false, eqb}
use Rattle.std.proofs.lemmas.List.{append-nil, length-drop}
use Rattle.std.proofs.lemmas.List.Sums.{prefix_len-le-length}
use Rattle.std.proofs.lemmas.Bool.{eqb-true}
use Rattle.std.specs.Prelude.{IfSome}
use Rattle.std.specs.List.{prefix_len}
use Rattle.protocol_lexer.specs.declared.Place.{Place}
use Rattle.protocol_lexer.specs.declared.Token.{Token}
use Rattle.protocol_lexer.specs.declared.TokenKind.{TokenKind}
use Rattle.protocol_lexer.specs.declared.TokenKind.TheVariants.{Arrow}
use Rattle.protocol_lexer.specs.declared.Piece.{Piece}
use Rattle.protocol_lexer.specs.Place.{start_place, place_after}
use Rattle.protocol_lexer.specs.Piece.{piece, is_word_byte, is_comment_byte, is_white_space, kind_of_byte, arrow, byte_token, token_of}
use Rattle.protocol_lexer.specs.Tokens.{Takes, AreTokens, IsBadByte, TokensOrBadByte}
use Rattle.protocol_lexer.specs.private.Found.{tokens_of_piece}
use Rattle.protocol_lexer.specs.Tokens.Takes.{nothing, after_gap, after_token}

-- from the start of the text the tokens so far are taken, and what is taken next comes after them
pub record Leads (text : List ℕ) (found : List Token) (left : List ℕ) (offset : ℕ) (place : Place) : Type 0 where
  pub onward : (tokens : List Token) (rest : List ℕ) (end : Place) → Takes left offset place tokens rest end
      → Takes text 0 start_place (found ++ tokens) rest end

pub Leads-start : (text : List ℕ) → Leads text [] text 0 start_place
Leads-start text = record { onward = λ tokens rest end t. t }

pub Leads-gap : (text : List ℕ) (found : List Token) (left : List ℕ) (offset : ℕ) (place : Place) (n : ℕ)
    → Leads text found left offset place → piece left ≡ Some (record { kind = None; length = n })
    → Leads text found (drop n left) (offset + n) (place_after place (take n left))
Leads-gap text found left offset place n l e =
    record { onward = λ tokens rest end t. l.onward tokens rest end (Takes.after_gap left offset place tokens rest end n e t) }

pub Leads-token : (text : List ℕ) (found : List Token) (left : List ℕ) (offset : ℕ) (place : Place) (n : ℕ) (kind : TokenKind) (token : Token)
    → Leads text found left offset place → piece left ≡ Some (record { kind = Some kind; length = n })
    → token ≡ record { kind = kind; start = offset; end = offset + n; place = place }
    → Leads text (found ++ token ∷ []) (drop n left) (offset + n) (place_after place (take n left))
Leads-token text found left offset place n kind token l e is =
    record { onward = λ tokens rest end t. rw append_assoc (l.onward (token ∷ tokens) rest end (Takes.after_token left offset place token tokens rest end n kind e is t)) }

Leads-piece : (text : List ℕ) (found : List Token) (left : List ℕ) (offset : ℕ) (place : Place) (kind : Option TokenKind) (n : ℕ)
    → Leads text found left offset place → piece left ≡ Some (record { kind = kind; length = n })
    → Leads text (found ++ tokens_of_piece (record { kind = kind; length = n }) offset place) (drop n left) (offset + n) (place_after place (take n left))
Leads-piece text found left offset place None n l e = rw append-nil (Leads-gap text found left offset place n l e)
Leads-piece text found left offset place (Some kind) n l e = Leads-token text found left offset place n kind _ l e refl

-- one turn of the loop
pub Leads-step : (text : List ℕ) (found : List Token) (left : List ℕ) (offset : ℕ) (place : Place) (p : Piece)
    → Leads text found left offset place → piece left ≡ Some p
    → (found' : List Token) (left' : List ℕ) (offset' : ℕ) (place' : Place)
    → found' ≡ found ++ tokens_of_piece p offset place → left' ≡ drop p.length left → offset' ≡ offset + p.length
    → place' ≡ place_after place (take p.length left)
    → Leads text found' left' offset' place'
Leads-step text found left offset place p l e found' left' offset' place' f g h i =
    rw (f, g, h, i) (Leads-piece text found left offset place p.kind p.length l e)

pub Leads-end : (text : List ℕ) (found : List Token) (left : List ℕ) (offset : ℕ) (place : Place)
    → Leads text found left offset place → Takes text 0 start_place found left place
Leads-end text found left offset place l =
    subst (λ (tokens : List Token). Takes text 0 start_place tokens left place) (append-nil found) (l.onward [] left place (Takes.nothing left offset place))

-- a piece has some bytes, and no more than there are
abbrev Within : List ℕ → Option Piece → Type 0
Within bytes found = IfSome found (λ p. (0 < p.length) × (p.length ≤ length bytes))

Within-cond : (bytes : List ℕ) (b : Bool) (x y : Option Piece) → (b ≡ true → Within bytes x) → (b ≡ false → Within bytes y) → Within bytes (cond b x y)
Within-cond bytes true x y f g = f refl
Within-cond bytes false x y f g = g refl

prefix_len-first : (p : ℕ → Bool) (b : ℕ) (bytes : List ℕ) → p b ≡ true → 0 < prefix_len p (b ∷ bytes)
prefix_len-first p b bytes h = rw h (omega arith)

Within-prefix : (p : ℕ → Bool) (b : ℕ) (bytes : List ℕ) → p b ≡ true → (0 < prefix_len p (b ∷ bytes)) × (prefix_len p (b ∷ bytes) ≤ length (b ∷ bytes))
Within-prefix p b bytes h = (prefix_len-first p b bytes h, prefix_len-le-length p (b ∷ bytes))

Within-arrow : (b : ℕ) (bytes : List ℕ) → Within (b ∷ bytes) (arrow bytes)
Within-arrow b [] = tt
Within-arrow b (c ∷ bytes) = Within-cond (b ∷ c ∷ bytes) (eqb c 62) (token_of Arrow 2) None (λ _. (omega arith, omega arith)) (λ _. tt)

Within-byte : (b : ℕ) (bytes : List ℕ) (kind : Option TokenKind) → Within (b ∷ bytes) (byte_token kind)
Within-byte b bytes None = tt
Within-byte b bytes (Some kind) = (omega arith, omega arith)

comment-begins : (b : ℕ) → eqb b 35 ≡ true → is_comment_byte b ≡ true
comment-begins b h = subst (λ (n : ℕ). is_comment_byte n ≡ true) (sym (eqb-true b 35 h)) refl

pub piece-within : (bytes : List ℕ) → Within bytes (piece bytes)
unfolding piece
piece-within [] = tt
piece-within (b ∷ bytes) =
    Within-cond (b ∷ bytes) (is_white_space b) _ _ (λ _. (omega arith, omega arith)) (λ _.
    Within-cond (b ∷ bytes) (eqb b 35) _ _ (λ h. Within-prefix is_comment_byte b bytes (comment-begins b h)) (λ _.
    Within-cond (b ∷ bytes) (is_word_byte b) _ _ (λ h. Within-prefix is_word_byte b bytes h) (λ _.
    Within-cond (b ∷ bytes) (eqb b 45) _ _ (λ _. Within-arrow b bytes) (λ _. Within-byte b bytes (kind_of_byte b)))))

pub piece_length : (bytes : List ℕ) (p : Piece) → piece bytes ≡ Some p → (0 < p.length) × (p.length ≤ length bytes)
piece_length bytes p e = subst (λ (found : Option Piece). Within bytes found) e (piece-within bytes)

pub within : (bytes : List ℕ) (found : Option Piece) → found ≡ piece bytes → Within bytes found
within bytes found e = subst (λ (o : Option Piece). Within bytes o) (sym e) (piece-within bytes)

-- each text is taken in one way alone, up to its end or to a byte that begins nothing
length_of : Option Piece → ℕ
length_of None = 0
length_of (Some p) = p.length

kind_of : Option Piece → Option TokenKind
kind_of None = None
kind_of (Some p) = p.kind

same_length : (o : Option Piece) (k m : Option TokenKind) (n i : ℕ) → o ≡ Some (record { kind = k; length = n }) → o ≡ Some (record { kind = m; length = i }) → i ≡ n
unfolding length_of
same_length o k m n i e d = ap length_of (sym d ∙ e)

same_kind : (o : Option Piece) (k m : Option TokenKind) (n i : ℕ) → o ≡ Some (record { kind = k; length = n }) → o ≡ Some (record { kind = m; length = i }) → m ≡ k
unfolding kind_of
same_kind o k m n i e d = ap kind_of (sym d ∙ e)

pub some-none : (kind : TokenKind) → Some kind ≡ None → ⊥
some-none kind e = cc

token-same : (k m : TokenKind) (o n i : ℕ) (p : Place) → k ≡ m → n ≡ i
    → ◌≡◌ {A = Token} (record { kind = k; start = o; end = o + n; place = p }) (record { kind = m; start = o; end = o + i; place = p })
token-same k m o n i p e d = cc

abbrev Same : List Token → List ℕ → Place → List Token → List ℕ → Place → Type 0
Same ts r e ts' r' e' = (ts ≡ ts') × (r ≡ r') × (e ≡ e')

abbrev After : ℕ → List ℕ → ℕ → Place → List Token → List ℕ → Place → Type 0
After n b o p ts r e = Takes (drop n b) (o + n) (place_after p (take n b)) ts r e

pub Takes-one : {b : List ℕ} {o : ℕ} {p : Place} {ts ts' : List Token} {r r' : List ℕ} {e e' : Place}
    → Takes b o p ts r e → piece r ≡ None → Takes b o p ts' r' e' → piece r' ≡ None → Same ts r e ts' r' e'
Takes-one (nothing b o p) x (nothing _ _ _) y = (refl, refl, refl)
Takes-one (nothing b o p) x (after_gap _ _ _ ts' r' e' n' q' t') y = cc
Takes-one (nothing b o p) x (after_token _ _ _ k' ts' r' e' n' kind' q' is' t') y = cc
Takes-one (after_gap b o p ts r e n q t) x (nothing _ _ _) y = cc
Takes-one (after_gap b o p ts r e n q t) x (after_gap _ _ _ ts' r' e' n' q' t') y =
    Takes-one t x (subst (λ (i : ℕ). After i b o p ts' r' e') (same_length (piece b) None None n n' q q') t') y
Takes-one (after_gap b o p ts r e n q t) x (after_token _ _ _ k' ts' r' e' n' kind' q' is' t') y =
    absurd (some-none kind' (same_kind (piece b) None (Some kind') n n' q q'))
Takes-one (after_token b o p k ts r e n kind q is t) x (nothing _ _ _) y = cc
Takes-one (after_token b o p k ts r e n kind q is t) x (after_gap _ _ _ ts' r' e' n' q' t') y =
    absurd (some-none kind (sym (same_kind (piece b) (Some kind) None n n' q q')))
Takes-one (after_token b o p k ts r e n kind q is t) x (after_token _ _ _ k' ts' r' e' n' kind' q' is' t') y =
    let i : n' ≡ n = same_length (piece b) (Some kind) (Some kind') n n' q q' in
    let j : Some kind' ≡ Some kind = same_kind (piece b) (Some kind) (Some kind') n n' q q' in
    let m : kind' ≡ kind = cc in
    let s : Same ts r e ts' r' e' = Takes-one t x (subst (λ (i : ℕ). After i b o p ts' r' e') i t') y in
    let h : k ≡ k' = is ∙ token-same kind kind' o n n' p (sym m) (sym i) ∙ sym is' in
    (cc, s.1, s.2)

-- a text that has tokens has no others, and no bad byte
pub AreTokens-one : (text : List ℕ) (ts ts' : List Token) → AreTokens text ts → AreTokens text ts' → ts ≡ ts'
unfolding piece
AreTokens-one text ts ts' a b = (Takes-one a.1 refl b.1 refl).0

pub IsBadByte-one : (text : List ℕ) (p p' : Place) → IsBadByte text p → IsBadByte text p' → p ≡ p'
IsBadByte-one text p p' a b = (Takes-one a.2 a.4 b.2 b.4).2

pub tokens-or-bad_byte : (text : List ℕ) (ts : List Token) (p : Place) → AreTokens text ts → IsBadByte text p → ⊥
unfolding piece
tokens-or-bad_byte text ts p a b = b.3 (sym (Takes-one a.1 refl b.2 b.4).1)

pub not_empty : (xs : List ℕ) → 0 < length xs → xs ≢ []
not_empty [] h e = absurd (omega arith)
not_empty (x ∷ xs) h e = cc

pub is_empty : (xs : List ℕ) → length xs ≡ 0 → xs ≡ []
is_empty [] h = refl
is_empty (x ∷ xs) h = absurd (omega arith)

-- each text is taken to its end, or to a byte that begins nothing
abbrev Stops : List ℕ → ℕ → Place → Type 0
Stops bytes offset place =
    (tokens : List Token) × (rest : List ℕ) × (end : Place) × Takes bytes offset place tokens rest end × ((rest ≡ []) ⊎ ((rest ≢ []) × (piece rest ≡ None)))

stops_after : (bytes : List ℕ) (offset : ℕ) (place : Place) (kind : Option TokenKind) (n : ℕ) → piece bytes ≡ Some (record { kind = kind; length = n })
    → Stops (drop n bytes) (offset + n) (place_after place (take n bytes)) → Stops bytes offset place
stops_after bytes offset place None n e (tokens, rest, end, taken, how) =
    (tokens, rest, end, Takes.after_gap bytes offset place tokens rest end n e taken, how)
stops_after bytes offset place (Some kind) n e (tokens, rest, end, taken, how) =
    let token : Token = record { kind = kind; start = offset; end = offset + n; place = place } in
    (token ∷ tokens, rest, end, Takes.after_token bytes offset place token tokens rest end n kind e refl taken, how)

stops_at : (bytes : List ℕ) (offset : ℕ) (place : Place) → (bytes ≡ [] → ⊥) → (o : Option Piece) → piece bytes ≡ o
    → ((p : Piece) → piece bytes ≡ Some p → Stops (drop p.length bytes) (offset + p.length) (place_after place (take p.length bytes)))
    → Stops bytes offset place
stops_at bytes offset place some None e later = ([], bytes, place, Takes.nothing bytes offset place, inr (some, e))
stops_at bytes offset place some (Some p) e later = stops_after bytes offset place p.kind p.length e (later p e)

stops : (most : ℕ) (bytes : List ℕ) (offset : ℕ) (place : Place) → length bytes ≤ most → Stops bytes offset place
stops most [] offset place few = ([], [], place, Takes.nothing [] offset place, inl refl)
stops zero (b ∷ bytes) offset place few = absurd (omega (arith, few))
stops (suc most) (b ∷ bytes) offset place few =
    stops_at (b ∷ bytes) offset place (λ none. cc) (piece (b ∷ bytes)) refl (λ p e.
    stops most (drop p.length (b ∷ bytes)) (offset + p.length) (place_after place (take p.length (b ∷ bytes))) (fewer p e))
  where
    fewer : (p : Piece) → piece (b ∷ bytes) ≡ Some p → length (drop p.length (b ∷ bytes)) ≤ most
    fewer p e = omega (arith, few, length-drop p.length (b ∷ bytes), (piece_length (b ∷ bytes) p e).0)

pub every_text : TokensOrBadByte
every_text text = told (stops (length text) text 0 start_place (omega arith))
  where
    told : Stops text 0 start_place → ((tokens : List Token) × AreTokens text tokens) ⊎ ((place : Place) × IsBadByte text place)
    told (tokens, rest, end, taken, inl none) = inl (tokens, (end, subst (λ (xs : List ℕ). Takes text 0 start_place tokens xs end) none taken))
    told (tokens, rest, end, taken, inr (some, begins_none)) = inr (end, (tokens, rest, taken, some, begins_none))
