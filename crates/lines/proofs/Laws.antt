-- The law of all grammars: a line says at most one thing; and what follows for the parts.
use Rattle.std.proofs.Common.{◌≡◌, ℕ, List, Option, Some, None, ◌∷◌, ◌++◌, refl, sym, subst, ap, ◌∙◌, inl, inr}
use Rattle.std.specs.Option.{option_zip}
use Rattle.std.proofs.lemmas.List.{append_cancel_left}
use Rattle.lines.specs.Bytes.{IsCutAt, Lacks}
use Rattle.lines.specs.Grammar.{Line, none, gives, number, valued, case, just, cut, fields, otherwise, means, Says}
use Rattle.lines.specs.Reading.{IsReading}
use Rattle.lines.proofs.FieldLists.{fields_one}
pub use Rattle.lines.proofs.FieldLists.{cut_one}

-- the rest behind the bytes with which a line begins
pub rest_one : (word bytes r t : List ℕ) → bytes ≡ word ++ r → bytes ≡ word ++ t → r ≡ t
rest_one word bytes r t e f = append_cancel_left word r t (sym e ∙ f)

pub says_one : {A : Type 0} (g : Line A) (bytes : List ℕ) (a b : A) → Says g bytes a → Says g bytes b → a ≡ b
says_one none bytes a b h k = absurd h
says_one (gives d) bytes a b h k = h.1 ∙ sym k.1
says_one (number limit) bytes a b h k = h.1 ∙ sym k.1
says_one (valued value) bytes a b h k = cc (h, k)
says_one (case word x y) bytes a b (inl h) (inl k) =
    says_one x k.0 a b (subst (λ r. Says x r a) (rest_one word bytes h.0 k.0 h.1 k.1) h.2) k.2
says_one (case word x y) bytes a b (inl h) (inr k) = absurd (k.0 h.0 h.1)
says_one (case word x y) bytes a b (inr h) (inl k) = absurd (h.0 k.0 k.1)
says_one (case word x y) bytes a b (inr h) (inr k) = says_one y bytes a b h.1 k.1
says_one (just word d x) bytes a b (inl h) (inl k) = h.1 ∙ sym k.1
says_one (just word d x) bytes a b (inl h) (inr k) = absurd (k.0 h.0)
says_one (just word d x) bytes a b (inr h) (inl k) = absurd (h.0 k.0)
says_one (just word d x) bytes a b (inr h) (inr k) = says_one x bytes a b h.1 k.1
says_one (cut c x y) bytes (a, b) (a', b') h k =
    let same = cut_one c bytes h.0 k.0 h.1 k.1 h.2 k.2 in
    let first : a ≡ a' = says_one x k.0 a a' (subst (λ f. Says x f a) same.0 h.3) k.3 in
    let second : b ≡ b' = says_one y k.1 b b' (subst (λ f. Says y f b) same.1 h.4) k.4 in
    cc (first, second)
says_one (fields c x) bytes a b h k = fields_one c (Says x) (λ bytes a b h k. says_one x bytes a b h k) bytes a b h k
says_one (otherwise x y) bytes a b (inl h) (inl k) = says_one x bytes a b h k
says_one (otherwise x y) bytes a b (inl h) (inr k) = absurd (k.0 a h)
says_one (otherwise x y) bytes a b (inr h) (inl k) = absurd (h.0 b k)
says_one (otherwise x y) bytes a b (inr h) (inr k) = says_one y bytes a b h.1 k.1
says_one (means f x) bytes a b h k = h.2 ∙ ap f (says_one x bytes h.0 k.0 h.1 k.1) ∙ sym k.2

-- what a line that is cut says, and what it does not say
pub cut_says : {A B : Type 0} (c : ℕ) (x : Line A) (y : Line B) (front back : List ℕ) (a : A) (b : B) → Lacks c front → Says x front a
    → Says y back b → Says (cut c x y) (front ++ c ∷ back) (a, b)
cut_says c x y front back a b lacks h k = (front, back, record { joined = refl; first = lacks }, h, k)

module _ {A B : Type 0} (c : ℕ) (x : Line A) (y : Line B) (bytes front back : List ℕ) (at : IsCutAt c bytes front back) where
  pub first_not : ((a : A) → Says x front a → ⊥) → (p : A × B) → Says (cut c x y) bytes p → ⊥
  first_not not p h = not p.0 (subst (λ f. Says x f p.0) (cut_one c bytes h.0 front h.1 back h.2 at).0 h.3)

  pub second_not : ((b : B) → Says y back b → ⊥) → (p : A × B) → Says (cut c x y) bytes p → ⊥
  second_not not p h = not p.1 (subst (λ f. Says y f p.1) (cut_one c bytes h.0 front h.1 back h.2 at).1 h.4)

  both_read : (a : Option A) (b : Option B) → IsReading x front a → IsReading y back b → IsReading (cut c x y) bytes (option_zip a b)
  both_read None b h k = first_not h
  both_read (Some a) None h k = second_not k
  both_read (Some a) (Some b) h k = (front, back, at, h, k)

  -- what both parts were read as is what the line was read as
  pub cut_read : (a : Option A) (b : Option B) (found : Option (A × B)) → found ≡ option_zip a b → IsReading x front a → IsReading y back b
      → IsReading (cut c x y) bytes found
  cut_read a b found e h k = subst (IsReading (cut c x y) bytes) (sym e) (both_read a b h k)
