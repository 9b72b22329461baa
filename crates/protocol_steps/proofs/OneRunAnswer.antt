-- A run has one answer.
use Rattle.std.proofs.Common.{◌≡◌, ℕ, List, [], ◌∷◌, ◌++◌, length, refl, sym, ap, subst, ◌∙◌, arith}
use Rattle.protocol_model.specs.declared.system.Configuration.{Configuration}
use Rattle.protocol_model.specs.declared.system.Run.{Run}
use Rattle.protocol_model.specs.System.{SystemData}
use Rattle.protocol_model.specs.Steps.{IsStep}
use Rattle.protocol_model.specs.Runs.{AreSteps, last_of}
use Rattle.protocol_steps.specs.Answers.{IsRunAnswer, IsFirstWrongStep}
use Rattle.protocol_steps.specs.declared.runs.RunAnswer.{RunAnswer}
use Rattle.protocol_steps.specs.declared.runs.RunAnswer.TheVariants.{BadRun, NotInitial, NotStep, NotBad}

-- a pair among steps is a step
step_at : (s : SystemData) (c : Configuration) (before : List (ℕ × Configuration)) (step : ℕ × Configuration) (after : List (ℕ × Configuration))
    → AreSteps s c (before ++ step ∷ after) → IsStep s step.0 (last_of c before) step.1
step_at s c [] step after goes = goes.0
step_at s c (x ∷ before) step after goes = step_at s x.1 before step after goes.1

-- a list is cut at its first wrong step in one way
cut_once : (s : SystemData) (c : Configuration) (b b' : List (ℕ × Configuration)) (w w' : ℕ × Configuration) (a a' : List (ℕ × Configuration))
    → b ++ w ∷ a ≡ b' ++ w' ∷ a' → AreSteps s c b → AreSteps s c b' → (IsStep s w.0 (last_of c b) w.1 → ⊥)
    → (IsStep s w'.0 (last_of c b') w'.1 → ⊥) → length b ≡ length b'
cut_once s c [] [] w w' a a' e g g' n n' = refl
cut_once s c [] (x ∷ b') w w' a a' e g g' n n' =
    let same : x ≡ w = cc e in
    absurd (n (subst (λ y. IsStep s y.0 c y.1) same g'.0))
cut_once s c (x ∷ b) [] w w' a a' e g g' n n' =
    let same : x ≡ w' = cc e in
    absurd (n' (subst (λ y. IsStep s y.0 c y.1) same g.0))
cut_once s c (x ∷ b) (y ∷ b') w w' a a' e g g' n n' =
    let heads : y ≡ x = cc e in
    let tails : b ++ w ∷ a ≡ b' ++ w' ∷ a' = cc e in
    let rest = cut_once s x.1 b b' w w' a a' tails g.1 (subst (λ z. AreSteps s z.1 b') heads g'.1) n
    (subst (λ z. IsStep s w'.0 (last_of z.1 b') w'.1 → ⊥) heads n') in
    omega (arith, rest)

module _ (s : SystemData) (run : Run) where
  -- a run with a wrong step does not go by steps
  not_all_steps : (k : ℕ) → IsFirstWrongStep s run k → AreSteps s run.first run.steps → ⊥
  not_all_steps k wrong goes =
      wrong.no_step (step_at s run.first wrong.before wrong.wrong wrong.after (subst (AreSteps s run.first) wrong.cut goes))

  wrong_once : (j k : ℕ) → IsFirstWrongStep s run j → IsFirstWrongStep s run k → j ≡ k
  wrong_once j k one other =
      let cut = sym one.cut ∙ other.cut in
      let same = cut_once s run.first one.before other.before one.wrong other.wrong one.after other.after cut one.goes other.goes one.no_step
      other.no_step in
      let first = one.counted in
      let second = other.counted in
      omega (arith, same, first, second)

pub run_answer_once : (s : SystemData) (run : Run) (answer other : RunAnswer) → IsRunAnswer s run answer → IsRunAnswer s run other → answer ≡ other
run_answer_once s run BadRun BadRun h k = refl
run_answer_once s run BadRun NotInitial h k = absurd (k h.begins)
run_answer_once s run BadRun (NotStep n) h k = absurd (not_all_steps s run n k h.goes)
run_answer_once s run BadRun NotBad h k = absurd (k.not_bad h.ends)
run_answer_once s run NotInitial BadRun h k = absurd (h k.begins)
run_answer_once s run NotInitial NotInitial h k = refl
run_answer_once s run NotInitial (NotStep n) h k = absurd (h k.begins)
run_answer_once s run NotInitial NotBad h k = absurd (h k.begins)
run_answer_once s run (NotStep m) BadRun h k = absurd (not_all_steps s run m h k.goes)
run_answer_once s run (NotStep m) NotInitial h k = absurd (k h.begins)
run_answer_once s run (NotStep m) (NotStep n) h k = ap NotStep (wrong_once s run m n h k)
run_answer_once s run (NotStep m) NotBad h k = absurd (not_all_steps s run m h k.goes)
run_answer_once s run NotBad BadRun h k = absurd (h.not_bad k.ends)
run_answer_once s run NotBad NotInitial h k = absurd (k h.begins)
run_answer_once s run NotBad (NotStep n) h k = absurd (not_all_steps s run n k h.goes)
run_answer_once s run NotBad NotBad h k = refl
