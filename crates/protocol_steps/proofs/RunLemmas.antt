-- Steps, one after the other.
use Rattle.std.proofs.Common.{◌≡◌, ℕ, ◌+◌, ◌<◌, Bool, true, false, List, [], ◌∷◌, ◌++◌, length, refl, ap, sym, subst, ◌∙◌, arith, take, drop, get_or}
use Rattle.std.proofs.lemmas.List.{take_more, take-append-drop}
use Rattle.protocol_model.specs.declared.system.Configuration.{Configuration}
use Rattle.protocol_model.specs.System.{SystemData}
use Rattle.protocol_model.specs.Steps.{IsStep}
use Rattle.protocol_model.specs.declared.system.Run.{Run}
use Rattle.protocol_model.specs.Patterns.{is_initial}
use Rattle.protocol_model.specs.Runs.{AreSteps, last_of}
use Rattle.protocol_steps.specs.Answers.{IsFirstWrongStep}
use Rattle.protocol_moves.proofs.ForCallers.{drop_more}
use Rattle.std.proofs.lemmas.List.{length-take-le}

pub record IsCheckedTo (s : SystemData) (c : Configuration) (steps : List (ℕ × Configuration)) (i : ℕ) (last : Configuration) : Type 0 where
  pub goes : AreSteps s c (take i steps)
  pub ends : last ≡ last_of c (take i steps)

are_steps_more : (s : SystemData) (c : Configuration) (steps : List (ℕ × Configuration)) (step : ℕ × Configuration) →
    AreSteps s c steps → IsStep s step.0 (last_of c steps) step.1 → AreSteps s c (steps ++ step ∷ [])
are_steps_more s c [] step h e = (e, tt)
are_steps_more s c (x ∷ steps) step h e = (h.0, are_steps_more s x.1 steps step h.1 e)

last_of_more : (c : Configuration) (steps : List (ℕ × Configuration)) (step : ℕ × Configuration) → last_of c (steps ++ step ∷ []) ≡ step.1
last_of_more c [] step = refl
last_of_more c (x ∷ steps) step = last_of_more x.1 steps step

more_steps : (s : SystemData) (c : Configuration) (steps : List (ℕ × Configuration)) (i : ℕ) (last : Configuration) (step : ℕ × Configuration) →
    i < length steps → step ≡ get_or steps i step → IsCheckedTo s c steps i last → IsStep s step.0 last step.1 → IsCheckedTo s c steps (i + 1) step.1
more_steps s c steps i last step h is checked e =
    let more : take (i + 1) steps ≡ take i steps ++ step ∷ [] = take_more steps i step h ∙ ap (λ x. take i steps ++ x ∷ []) (sym is) in
    record {
      goes = subst (AreSteps s c) (sym more)
          (are_steps_more s c (take i steps) step checked.goes (subst (λ d. IsStep s step.0 d step.1) checked.ends e));
      ends = sym (ap (last_of c) more ∙ last_of_more c (take i steps) step);
    }

pub checked_more : (s : SystemData) (c : Configuration) (steps : List (ℕ × Configuration)) (i : ℕ) (last : Configuration) (step : ℕ × Configuration)
    (items : List (ℕ × Configuration)) → items ≡ steps → i < length items → step ≡ get_or items i step →
    IsCheckedTo s c steps i last → IsStep s step.0 last step.1 → IsCheckedTo s c steps (i + 1) step.1
checked_more s c steps i last step items same h is checked e =
    more_steps s c steps i last step (subst (λ xs. i < length xs) same h) (subst (λ xs. step ≡ get_or xs i step) same is) checked e

cut_at : (steps : List (ℕ × Configuration)) (i : ℕ) (step : ℕ × Configuration) → i < length steps → step ≡ get_or steps i step →
    steps ≡ take i steps ++ step ∷ drop (i + 1) steps
cut_at steps i step h is =
    sym (take-append-drop i steps) ∙ ap (λ ys. take i steps ++ ys) (drop_more steps i step h)
    ∙ ap (λ x. take i steps ++ x ∷ drop (i + 1) steps) (sym is)

pub first_wrong : (s : SystemData) (run : Run) (i : ℕ) (last : Configuration) (step : ℕ × Configuration)
    (items : List (ℕ × Configuration)) → items ≡ run.steps → i < length items → step ≡ get_or items i step →
    is_initial s run.first ≡ true → IsCheckedTo s run.first run.steps i last → (is : Bool) → is ≡ false → (IsStep s step.0 last step.1 → is ≡ true) →
    IsFirstWrongStep s run (i + 1)
first_wrong s run i last step items same h at begins checked is fails told =
    let within : i < length run.steps = subst (λ xs. i < length xs) same h in
    record {
      begins = begins;
      before = take i run.steps;
      wrong = step;
      after = drop (i + 1) run.steps;
      cut = cut_at run.steps i step within (subst (λ xs. step ≡ get_or xs i step) same at);
      counted = ap (λ n. n + 1) (sym (length-take-le i run.steps (omega (arith, within))));
      goes = checked.goes;
      no_step = λ m. false_true (sym fails ∙ told (subst (λ d. IsStep s step.0 d step.1) (sym checked.ends) m));
    }
  where
    false_true : false ≡ true → ⊥
    false_true e = cc
