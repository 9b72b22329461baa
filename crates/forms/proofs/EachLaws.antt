-- One sequence of each of the grammars that a list gives: how a loop reads them, and that the next symbol tells how to go on.
use Rattle.std.proofs.Common.{◌≡◌, ℕ, Bool, true, false, ◌&&◌, List, [], ◌∷◌, ◌++◌, Ok, Err, refl, sym, ap, ◌∙◌, append_assoc}
use Rattle.std.proofs.lemmas.List.{append-nil}
use Rattle.forms.specs.declared.fault.SyntaxFault.{SyntaxFault}
use Rattle.forms.specs.declared.fault.SyntaxFault.TheVariants as Faults
use Rattle.forms.specs.Symbol.{Source}
use Rattle.forms.specs.Grammar.{Grammar, each}
use Rattle.forms.specs.Shape.{IsUniform, shape, none, after, grows, first, more, are_apart, is_told}
use Rattle.forms.specs.Reading.{Answer, follow, read, read_then, Fails}

-- what was read before stands before the rest
abbrev pub joined : {A : Type 0} → List A → Answer (List A) → Answer (List A)
joined found answer = follow answer (λ rest j. Ok (found ++ rest, j))

pub each_start : {A : Type 0} (found : List A) (o : Answer (List A)) → found ≡ [] → joined found o ≡ o
each_start found (Ok p) e = rw e refl
each_start found (Err e) h = refl

pushed : {A : Type 0} (found : List A) (a : A) (o : Answer (List A)) → joined (found ++ a ∷ []) o ≡ joined found (follow o (λ values j. Ok (a ∷ values, j)))
pushed found a (Ok p) = ap (λ (l : List _). Ok (l, p.1)) (append_assoc found (a ∷ []) p.0)
pushed found a (Err e) = refl

module _ {A B : Type 0} (s : Source) (f : B → Grammar A) where
  -- reading the rest from here answers the whole
  abbrev pub Left : List B → List A → ℕ → Answer (List A) → Type 0
  Left left found at whole = joined found (read s (each f left) at) ≡ whole

  first_read : (b : B) (bs left : List B) (found : List A) (at : ℕ) (whole : Answer (List A)) → Left left found at whole → left ≡ b ∷ bs
      → joined found (follow (read s (f b) at) (λ a i. follow (read s (each f bs) i) (λ values j. Ok (a ∷ values, j)))) ≡ whole
  unfolding read_then
  first_read b bs left found at whole h e = ap (λ (l : List B). joined found (read s (each f l) at)) (sym e) ∙ h

  pub each_next : (b : B) (bs left : List B) (found items : List A) (at k : ℕ) (a : A) (whole : Answer (List A))
      → Left left found at whole → left ≡ b ∷ bs → read s (f b) at ≡ Ok (a, k) → items ≡ found ++ a ∷ [] → Left bs items k whole
  each_next b bs left found items at k a whole h e o g =
      let two = first_read b bs left found at whole h e in
      rw g (pushed found a (read s (each f bs) k) ∙ (rw o at two))

  fails_by : (b : B) (bs left : List B) (found : List A) (at : ℕ) (whole : Answer (List A)) (e : SyntaxFault)
      → Left left found at whole → left ≡ b ∷ bs → read s (f b) at ≡ Err e → whole ≡ Err e
  fails_by b bs left found at whole e h g f = sym (first_read b bs left found at whole h g) ∙ rw f refl

  pub each_fails : (b : B) (bs left : List B) (found : List A) (at : ℕ) (e : SyntaxFault) (whole : Answer (List A))
      → Left left found at whole → left ≡ b ∷ bs → Fails e (read s (f b) at) → Fails e whole
  each_fails b bs left found at Faults.Memory whole h g o = tt
  each_fails b bs left found at (Faults.BadByte p) whole h g o = fails_by b bs left found at whole _ h g o
  each_fails b bs left found at (Faults.Unexpected p) whole h g o = fails_by b bs left found at whole _ h g o
  each_fails b bs left found at (Faults.TooMany w p) whole h g o = fails_by b bs left found at whole _ h g o

  pub each_ends : (left : List B) (found : List A) (at : ℕ) (whole : Answer (List A)) → Left left found at whole → left ≡ [] → whole ≡ Ok (found, at)
  each_ends left found at whole h e =
      sym (ap (λ (l : List B). joined found (read s (each f l) at)) (sym e) ∙ h) ∙ ap (λ (l : List A). Ok (l, at)) (append-nil found)

and_true : (b d : Bool) → b ≡ true → d ≡ true → (b && d) ≡ true
and_true true d e h = h
and_true false d e h = let g : false ≡ true = e in cc

pub each_uniform : {A B : Type 0} (f : B → Grammar A) → ((b : B) → IsUniform (f b)) → (bs : List B) → IsUniform (each f bs)
each_uniform f u [] = tt
each_uniform f u (b ∷ bs) = (u b, λ _. (each_uniform f u bs, λ _. tt))

module _ {A B : Type 0} (f : B → Grammar A) (growing : (b : B) → grows (shape (f b)) ≡ true) where
  -- what may go on with none of their first symbols may be followed by all of them
  pub each_apart : (m : List ℕ) → ((b : B) → are_apart (first (shape (f b))) m ≡ true) → (bs : List B)
      → are_apart (first (after (shape (each f bs)) none)) m ≡ true
  each_apart m h [] = refl
  each_apart m h (b ∷ bs) = rw (growing b) (h b)

  pub each_told : ((b : B) → is_told (shape (f b)) ≡ true) → ((b c : B) → are_apart (first (shape (f c))) (more (shape (f b))) ≡ true)
      → (bs : List B) → is_told (shape (each f bs)) ≡ true
  each_told told split [] = refl
  each_told told split (b ∷ bs) =
      and_true (is_told (shape (f b))) _ (told b)
      (and_true (is_told (after (shape (each f bs)) none)) _ (and_true (is_told (shape (each f bs))) _ (each_told told split bs) refl)
      (each_apart (more (shape (f b))) (split b) bs))
