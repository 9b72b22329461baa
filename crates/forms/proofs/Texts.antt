-- What reading a whole text by a grammar says of its meaning and of its first fault, and that a text has one of them.
use Rattle.std.proofs.Common.{◌≡◌, ℕ, true, List, length, Ok, Err, refl, sym, ap, subst, ◌∙◌, inl, inr, ◌⊎◌, arith}
use Rattle.std.specs.Prelude.{◌↔◌}
use Rattle.std.proofs.lemmas.Bool.{cases_order}
use Rattle.protocol_lexer.specs.declared.Place.{Place}
use Rattle.protocol_lexer.specs.declared.Token.{Token}
use Rattle.protocol_lexer.specs.Tokens.{AreTokens, IsBadByte, TokensAreDetermined, TokensExcludeBadByte, TokensOrBadByte, BadByteIsDetermined}
use Rattle.forms.specs.declared.fault.SyntaxFault.{SyntaxFault}
use Rattle.forms.specs.declared.fault.SyntaxFault.TheVariants as Faults
use Rattle.forms.specs.Symbol.{source_of, place_at}
use Rattle.forms.specs.Grammar.{Grammar, IsWithin}
use Rattle.forms.specs.Shape.{IsUniform, shape, is_told}
use Rattle.forms.specs.FirstFault.{IsMeaning, IsFault, MeaningOrFault}
use Rattle.forms.specs.Reading.{Answer, read}
use Rattle.forms.proofs.Faults.{FaultOf, ok_says, ok_no_fault, short_fault, short_says, failed_fault, failed_says}

-- two indices are the same, or not
same_or_not : (a b : ℕ) → (a ≡ b) ⊎ (a ≡ b → ⊥)
same_or_not a b = elim (cases_order a b) [
  | inl e ↦ inl e
  | inr o ↦ inr (λ e. elim o [ inl h ↦ omega (arith, h, e) | inr h ↦ omega (arith, h, e) ])
]

-- a text with a bad byte
pub bad_byte_fault : {A : Type 0} (x : Grammar A) → BadByteIsDetermined → TokensExcludeBadByte → (text : List ℕ) (place : Place) → IsBadByte text place
    → (d : SyntaxFault) → IsFault x text d ↔ (Faults.BadByte place ≡ d)
bad_byte_fault x one apart text place b d = (bad_only d, λ g. subst (λ (e : SyntaxFault). IsFault x text e) g b)
  where
    bad_only : (d : SyntaxFault) → IsFault x text d → Faults.BadByte place ≡ d
    bad_only (Faults.BadByte other) u = ap Faults.BadByte (one text place other b u)
    bad_only (Faults.Unexpected other) u = absurd (apart text u.0 place u.1 b)
    bad_only (Faults.TooMany w other) u = absurd (apart text u.0 place u.1 b)
    bad_only Faults.Memory u = absurd u

pub bad_byte_meaning : {A : Type 0} (x : Grammar A) → TokensExcludeBadByte → (text : List ℕ) (place : Place) → IsBadByte text place
    → (a : A) → IsMeaning x text a → ⊥
bad_byte_meaning x apart text place b a w = apart text w.0 place w.1 b

module _ {A : Type 0} (x : Grammar A) (u : IsUniform x) (t : is_told (shape x) ≡ true) (one : TokensAreDetermined) (apart : TokensExcludeBadByte) where
  -- a text with these tokens
  module _ (text : List ℕ) (ts : List Token) (taken : AreTokens text ts) where
    of_tokens : (a : A) → IsMeaning x text a → IsWithin x (source_of text ts) a
    of_tokens a w = subst (λ (z : List Token). IsWithin x (source_of text z) a) (one text w.0 ts w.1 taken) w.2

    fault_at : (e : SyntaxFault) → IsFault x text e → FaultOf x (source_of text ts) e
    fault_at (Faults.BadByte place) w = absurd (apart text ts place taken w)
    fault_at (Faults.Unexpected place) w =
        subst (λ (z : List Token). FaultOf x (source_of text z) (Faults.Unexpected place)) (one text w.0 ts w.1 taken) w.2
    fault_at (Faults.TooMany v place) w =
        subst (λ (z : List Token). FaultOf x (source_of text z) (Faults.TooMany v place)) (one text w.0 ts w.1 taken) w.2
    fault_at Faults.Memory w = absurd w

    fault_of : (e : SyntaxFault) → FaultOf x (source_of text ts) e → IsFault x text e
    fault_of (Faults.BadByte place) w = absurd w.1
    fault_of (Faults.Unexpected place) w = (ts, taken, w)
    fault_of (Faults.TooMany v place) w = (ts, taken, w)
    fault_of Faults.Memory w = w.1

    to_end : (a : A) (at : ℕ) → read (source_of text ts) x 0 ≡ Ok (a, at) → at ≡ length ts → read (source_of text ts) x 0 ≡ Ok (a, length ts)
    to_end a at e z = e ∙ ap (λ (n : ℕ). Ok (a, n)) z

    pub text_meaning : (a : A) (at : ℕ) → read (source_of text ts) x 0 ≡ Ok (a, at) → at ≡ length ts → (b : A) → IsMeaning x text b ↔ (a ≡ b)
    text_meaning a at e z b =
        let two = ok_says (source_of text ts) x u t a (to_end a at e z) b in
        (λ w. two.0 (of_tokens b w), λ g. (ts, taken, two.1 g))

    pub text_no_fault : (a : A) (at : ℕ) → read (source_of text ts) x 0 ≡ Ok (a, at) → at ≡ length ts → (e : SyntaxFault) → IsFault x text e → ⊥
    text_no_fault a at e z f w = ok_no_fault (source_of text ts) x u t a (to_end a at e z) f (fault_at f w)

    pub short_text_fault : (a : A) (at : ℕ) → read (source_of text ts) x 0 ≡ Ok (a, at) → (at ≡ length ts → ⊥)
        → (d : SyntaxFault) → IsFault x text d ↔ (Faults.Unexpected (place_at (source_of text ts) at) ≡ d)
    short_text_fault a at e other d =
        let two = short_fault (source_of text ts) x u t a at e other d in
        (λ w. two.0 (fault_at d w), λ g. fault_of d (two.1 g))

    pub short_text_meaning : (a : A) (at : ℕ) → read (source_of text ts) x 0 ≡ Ok (a, at) → (at ≡ length ts → ⊥) → (b : A) → IsMeaning x text b → ⊥
    short_text_meaning a at e other b w = short_says (source_of text ts) x u t a at e other b (of_tokens b w)

    pub failed_text_fault : (e : SyntaxFault) → read (source_of text ts) x 0 ≡ Err e → (d : SyntaxFault) → IsFault x text d ↔ (e ≡ d)
    failed_text_fault e h d =
        let two = failed_fault (source_of text ts) x u t e h d in
        (λ w. two.0 (fault_at d w), λ g. fault_of d (two.1 g))

    pub failed_text_meaning : (e : SyntaxFault) → read (source_of text ts) x 0 ≡ Err e → (b : A) → IsMeaning x text b → ⊥
    failed_text_meaning e h b w = failed_says (source_of text ts) x u t e h b (of_tokens b w)

    -- both readings are what the reader answers
    meanings_at : (a : A) (at : ℕ) → read (source_of text ts) x 0 ≡ Ok (a, at) → (at ≡ length ts) ⊎ (at ≡ length ts → ⊥)
        → (b c : A) → IsMeaning x text b → IsMeaning x text c → b ≡ c
    meanings_at a at e (inl whole) b c h k = sym ((text_meaning a at e whole b).0 h) ∙ (text_meaning a at e whole c).0 k
    meanings_at a at e (inr short) b c h k = absurd (short_text_meaning a at e short b h)

    meanings_by : (o : Answer A) → read (source_of text ts) x 0 ≡ o → (b c : A) → IsMeaning x text b → IsMeaning x text c → b ≡ c
    meanings_by (Ok a) e b c h k = meanings_at a.0 a.1 e (same_or_not a.1 (length ts)) b c h k
    meanings_by (Err fault) e b c h k = absurd (failed_text_meaning fault e b h)

    faults_at : (a : A) (at : ℕ) → read (source_of text ts) x 0 ≡ Ok (a, at) → (at ≡ length ts) ⊎ (at ≡ length ts → ⊥)
        → (f g : SyntaxFault) → IsFault x text f → IsFault x text g → f ≡ g
    faults_at a at e (inl whole) f g h k = absurd (text_no_fault a at e whole f h)
    faults_at a at e (inr short) f g h k = sym ((short_text_fault a at e short f).0 h) ∙ (short_text_fault a at e short g).0 k

    faults_by : (o : Answer A) → read (source_of text ts) x 0 ≡ o → (f g : SyntaxFault) → IsFault x text f → IsFault x text g → f ≡ g
    faults_by (Ok a) e f g h k = faults_at a.0 a.1 e (same_or_not a.1 (length ts)) f g h k
    faults_by (Err fault) e f g h k = sym ((failed_text_fault fault e f).0 h) ∙ (failed_text_fault fault e g).0 k

    apart_at : (a : A) (at : ℕ) → read (source_of text ts) x 0 ≡ Ok (a, at) → (at ≡ length ts) ⊎ (at ≡ length ts → ⊥)
        → (f : SyntaxFault) (b : A) → IsFault x text f → IsMeaning x text b → ⊥
    apart_at a at e (inl whole) f b h k = text_no_fault a at e whole f h
    apart_at a at e (inr short) f b h k = short_text_meaning a at e short b k

    apart_by : (o : Answer A) → read (source_of text ts) x 0 ≡ o → (f : SyntaxFault) (b : A) → IsFault x text f → IsMeaning x text b → ⊥
    apart_by (Ok a) e f b h k = apart_at a.0 a.1 e (same_or_not a.1 (length ts)) f b h k
    apart_by (Err fault) e f b h k = failed_text_meaning fault e b k

    -- and it answers one of both
    some_at : (a : A) (at : ℕ) → read (source_of text ts) x 0 ≡ Ok (a, at) → (at ≡ length ts) ⊎ (at ≡ length ts → ⊥) → MeaningOrFault x text
    some_at a at e (inl whole) = inl (a, (text_meaning a at e whole a).1 refl)
    some_at a at e (inr short) =
        let fault = Faults.Unexpected (place_at (source_of text ts) at) in inr (fault, (short_text_fault a at e short fault).1 refl)

    some_by : (o : Answer A) → read (source_of text ts) x 0 ≡ o → MeaningOrFault x text
    some_by (Ok a) e = some_at a.0 a.1 e (same_or_not a.1 (length ts))
    some_by (Err fault) e = inr (fault, (failed_text_fault fault e fault).1 refl)

  pub meaning_or_fault : TokensOrBadByte → (text : List ℕ) → MeaningOrFault x text
  meaning_or_fault every text = elim (every text) [
    | inl some ↦ some_by text some.0 some.1 _ refl
    | inr bad ↦ inr (Faults.BadByte bad.0, bad.1)
  ]

  pub meaning_once : (text : List ℕ) (b c : A) → IsMeaning x text b → IsMeaning x text c → b ≡ c
  meaning_once text b c h k = meanings_by text h.0 h.1 _ refl b c h k

  pub fault_or_meaning : (text : List ℕ) (fault : SyntaxFault) (b : A) → IsFault x text fault → IsMeaning x text b → ⊥
  fault_or_meaning text fault b h k = apart_by text k.0 k.1 _ refl fault b h k

  pub fault_once : BadByteIsDetermined → (text : List ℕ) (fault other : SyntaxFault) → IsFault x text fault → IsFault x text other → fault ≡ other
  fault_once byte text (Faults.BadByte place) other h k = (bad_byte_fault x byte apart text place h other).0 k
  fault_once byte text (Faults.Unexpected place) other h k = faults_by text h.0 h.1 _ refl (Faults.Unexpected place) other h k
  fault_once byte text (Faults.TooMany what place) other h k = faults_by text h.0 h.1 _ refl (Faults.TooMany what place) other h k
  fault_once byte text Faults.Memory other h k = absurd h
