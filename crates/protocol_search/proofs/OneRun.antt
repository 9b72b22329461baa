-- The run through some words is determined.
use Rattle.std.proofs.Common.{◌≡◌, ◌∙◌, ℕ, List, [], ◌∷◌, refl, sym, subst, arith, inl, inr}
use Rattle.std.proofs.lemmas.Bool.{cases_lt}
use Rattle.protocol_model.specs.declared.system.Configuration.{Configuration}
use Rattle.protocol_model.specs.declared.system.Run.{Run}
use Rattle.protocol_model.specs.System.{SystemData}
use Rattle.configuration_words.proofs.ForCallers.{word_of-injective}
use Rattle.protocol_search.specs.Runs.{IsLeastRule, IsWordOf, AreStepsThrough, IsRunThrough}

same-configuration : (s : SystemData) (w : List ℕ) (c d : Configuration) → IsWordOf s w c → IsWordOf s w d → c ≡ d
same-configuration s w c d h k = word_of-injective s c d h.0 k.0 (sym h.1 ∙ k.1)

same-rule : (s : SystemData) (c d : Configuration) (q r : ℕ) → IsLeastRule s c d q → IsLeastRule s c d r → q ≡ r
same-rule s c d q r h k = elim (cases_lt q r) [
  | inl before ↦ absurd (k.none_before q before h.step)
  | inr other ↦ elim (cases_lt r q) [ inl after ↦ absurd (h.none_before r after k.step) | inr neither ↦ omega (arith, other, neither) ]
]

steps-once : (s : SystemData) (c : Configuration) (words : List (List ℕ)) (one other : List (ℕ × Configuration))
    → AreStepsThrough s c words one → AreStepsThrough s c words other → one ≡ other
steps-once s c [] [] [] h k = refl
steps-once s c [] (step ∷ steps) other h k = absurd h
steps-once s c [] [] (step ∷ steps) h k = absurd k
steps-once s c (w ∷ words) [] other h k = absurd h
steps-once s c (w ∷ words) (step ∷ steps) [] h k = absurd k
steps-once s c (w ∷ words) (step ∷ steps) (step' ∷ steps') h k =
    let after = same-configuration s w step.1 step'.1 h.0 k.0 in
    let rule = same-rule s c step.1 step.0 step'.0 h.1 (subst (λ d. IsLeastRule s c d step'.0) (sym after) k.1) in
    let later = steps-once s step.1 words steps steps' h.2 (subst (λ d. AreStepsThrough s d words steps') (sym after) k.2) in
    λ i. (rule i, after i) ∷ later i

pub run-once : (s : SystemData) (words : List (List ℕ)) (one other : Run) → IsRunThrough s words one → IsRunThrough s words other → one ≡ other
run-once s [] one other h k = absurd h
run-once s (w ∷ words) one other h k =
    let first = same-configuration s w one.first other.first h.0 k.0 in
    let steps = steps-once s one.first words one.steps other.steps h.1 (subst (λ c. AreStepsThrough s c words other.steps) (sym first) k.1) in
    λ i. record { first = first i; steps = steps i }
