-- The order of words, by their letters from the last one back.
use Rattle.std.proofs.Common.{ℕ, List, reverse, sym, ap, subst, ◌∙◌, inl, inr, IsTrue}
use Rattle.std.proofs.lemmas.List.{reverse-reverse}
use Rattle.sequence.specs.WordOrder.{is_before}
use Rattle.exploration.proofs.ForCallers.{Below, Below-cases, Below-trans, before_at_reverses, is_before-irreflexive, is_before-asymmetric}

pub before_to_Below : (u w : List ℕ) → IsTrue (is_before u w) → Below (reverse u) (reverse w)
before_to_Below u w h =
    elim (Below-cases (reverse u) (reverse w)) [
      | inl below ↦ below
      | inr (inl same) ↦ absurd (is_before-irreflexive w (subst (λ x. IsTrue (is_before x w)) (sym (reverse-reverse u) ∙ ap reverse same ∙ reverse-reverse w) h))
      | inr (inr above) ↦ absurd (is_before-asymmetric u w h (before_at_reverses w u above))
    ]

pub is_before-trans : (u v w : List ℕ) → IsTrue (is_before u v) → IsTrue (is_before v w) → IsTrue (is_before u w)
is_before-trans u v w h k = before_at_reverses u w (Below-trans (reverse u) (reverse v) (reverse w) (before_to_Below u v h) (before_to_Below v w k))
