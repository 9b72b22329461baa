-- A cut of one letter is a loss of a set of one letter.
use Rattle.std.proofs.Common.{◌≡◌, ◌==◌, ◌↔◌, ℕ, false, List, [], ◌∷◌, IsTrue, refl, sym, subst, inl, inr, eq-eqb, eqb-true}
use Rattle.std.proofs.lemmas.Bool.{or_cases, or_left}
use Rattle.protocol_model.specs.Moves.{is_in, IsCut, IsLoss}
use Rattle.protocol_model.specs.Raised.{IsRaisedMove}

in_one : (a x : ℕ) → IsTrue (is_in (a ∷ []) x) → x ≡ a
in_one a x h = elim (or_cases (a == x) false h) [ inl e ↦ sym (eqb-true a x e) | inr e ↦ absurd cc ]

pub cut_is_loss : (a : ℕ) (old new : List ℕ) → IsCut a old new ↔ IsLoss (a ∷ []) old new
cut_is_loss a old new = (
  λ m. record { letter = a; listed = or_left (a == a) false (eq-eqb a a refl); cut = m },
  λ m. subst (λ x. IsCut x old new) (in_one a m.letter m.listed) m.cut,
)

with_leads : (P Q : List ℕ → List ℕ → Type 0) (offset count : ℕ) (u w : List ℕ) → ((old new : List ℕ) → P old new → Q old new) →
    IsRaisedMove P offset count u w → IsRaisedMove Q offset count u w
with_leads P Q offset count u w f m =
    record {
      old = m.old;
      new = m.new;
      old_in_range = m.old_in_range;
      new_in_range = m.new_in_range;
      word_before = m.word_before;
      word_after = m.word_after;
      leads = f m.old m.new m.leads;
    }

pub raised_cut : (a offset count : ℕ) (u w : List ℕ) → IsRaisedMove (IsLoss (a ∷ [])) offset count u w ↔ IsRaisedMove (IsCut a) offset count u w
raised_cut a offset count u w = (
  with_leads (IsLoss (a ∷ [])) (IsCut a) offset count u w (λ old new. (cut_is_loss a old new).1),
  with_leads (IsCut a) (IsLoss (a ∷ [])) offset count u w (λ old new. (cut_is_loss a old new).0),
)
