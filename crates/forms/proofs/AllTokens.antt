-- What the reader of a meaning says of all tokens of a text.
use Rattle.std.proofs.Common.{◌≡◌, ℕ, zero, suc, ◌+◌, ◌≤◌, true, false, List, [], ◌∷◌, length, Some, Ok, Err, refl, sym, ap, subst, ◌∙◌, inl, inr, arith}
use Rattle.std.specs.Prelude.{◌↔◌, slice_get}
use Rattle.std.specs.List.{AllByRecursion}
use Rattle.protocol_lexer.specs.declared.Token.{Token}
use Rattle.protocol_lexer.specs.Tokens.{LiesIn}
use Rattle.std.proofs.lemmas.Bool.{cases_order}
use Rattle.forms.specs.declared.fault.SyntaxFault.{SyntaxFault}
use Rattle.forms.specs.declared.fault.SyntaxFault.TheVariants as Faults
use Rattle.forms.specs.Symbol.{Source}
use Rattle.forms.specs.Grammar.{Grammar, Says, IsWithin}
use Rattle.forms.proofs.Meaning.{meaning}
use Rattle.forms.specs.Shape.{code_at, is_in}
use Rattle.forms.specs.Reading.{Answer, Fails}
use Rattle.forms.proofs.Laws.{Lawful, Done, Failed, Outcome}
use Rattle.forms.proofs.Repeats.{code_behind}

module _ (s : Source) (A : Type 0) (g : Grammar A) (c : List ℕ) (f : List ℕ) (l : Lawful s (meaning g) f) (none : is_in c 0 ≡ false) where
  pub let_in : (i : ℕ) → length s.tokens ≤ i → is_in c (code_at s i) ≡ true → ⊥
  let_in i h e =
      let g : true ≡ false = sym e ∙ ap (is_in c) (code_behind s i h) ∙ none in
      absurd cc

  done_at_end : (a : A) (j : ℕ) → Done s (meaning g) c 0 a j → (b : A) → Says g s 0 (length s.tokens) b → (j ≡ length s.tokens) × (b ≡ a)
  done_at_end a j d b p = elim (cases_order (length s.tokens) j) [
    | inl e ↦ (sym e, d.only b (subst (λ (n : ℕ). Says g s 0 n b) e p))
    | inr o ↦ elim o [
      | inl g ↦ absurd (let_in (length s.tokens) (omega arith) (d.begun.shorter (length s.tokens) b g p))
      | inr g ↦ absurd (d.stops (l.shorten 0 (j + 1) (length s.tokens) (l.said 0 (length s.tokens) b p) (omega arith) (omega (arith, g))))
    ]
  ]

  failed_at : (e : SyntaxFault) (j : ℕ) → Failed s (meaning g) c 0 e j → (b : A) → IsWithin g s b → ⊥
  failed_at e j d b w = elim (cases_order (length s.tokens) j) [
    | inl h ↦ let_in (length s.tokens) (omega arith) (d.begun.shorter (length s.tokens) b (omega (arith, h)) w.says)
    | inr o ↦ elim o [
      | inl h ↦ let_in (length s.tokens) (omega arith) (d.begun.shorter (length s.tokens) b (omega (arith, h)) w.says)
      | inr h ↦
          let more : j + 1 ≤ length s.tokens = omega (arith, h) in
          elim d.wrong [
            | inl n ↦ n.1 (l.shorten 0 (j + 1) (length s.tokens) (l.said 0 (length s.tokens) b w.says) (omega arith) more)
            | inr n ↦ w.within n.0 (j + 1) more n.3
          ]
    ]
  ]

  pub answers_ok : (a : A) → Outcome s (meaning g) c 0 (Ok (a, length s.tokens)) → (b : A) → IsWithin g s b ↔ (Some a ≡ Some b)
  answers_ok a d b = (
    λ w. ap Some (sym (done_at_end a (length s.tokens) d b w.says).1),
    λ e. let same : a ≡ b = cc in
        subst (λ (v : A). IsWithin g s v) same (record { says = d.says; within = λ w k h p. d.begun.clean w k h p }),
  )

  pub answers_short : (a : A) (j : ℕ) → Outcome s (meaning g) c 0 (Ok (a, j)) → (j ≡ length s.tokens → ⊥) → (b : A) → IsWithin g s b → ⊥
  answers_short a j d short b w = short (done_at_end a j d b w.says).0

  pub answers_failed : (e : SyntaxFault) → Outcome s (meaning g) c 0 (Err e) → (b : A) → IsWithin g s b → ⊥
  answers_failed e d b w = failed_at e d.0 d.1 b w

pub lies_at : (text : List ℕ) (ts : List Token) → AllByRecursion (LiesIn text) ts → (i : ℕ) (t : Token) → slice_get ts i ≡ Some t → LiesIn text t
lies_at text [] l i t e = absurd cc
lies_at text (u ∷ ts) l zero t e = let h : u ≡ t = cc in subst (λ (v : Token). LiesIn text v) h l.0
lies_at text (u ∷ ts) l (suc i) t e = lies_at text ts l.1 i t e

pub not_memory : {A : Type 0} (e : SyntaxFault) (answer : Answer A) → (e ≡ Faults.Memory → ⊥) → Fails e answer → answer ≡ Err e
not_memory Faults.Memory answer other f = absurd (other refl)
not_memory (Faults.BadByte p) answer other f = f
not_memory (Faults.Unexpected p) answer other f = f
not_memory (Faults.TooMany w p) answer other f = f
