-- What the check of a run answers.
use Rattle.std.specs.Prelude.{◌≡◌, ◌+◌, ℕ, List, ◌∷◌, ◌++◌, IsTrue, length}
use Rattle.protocol_model.specs.declared.system.Configuration.{Configuration}
use Rattle.protocol_model.specs.declared.system.Run.{Run}
use Rattle.protocol_model.specs.System.{SystemData}
use Rattle.protocol_model.specs.Patterns.{is_initial, is_bad}
use Rattle.protocol_model.specs.Steps.{IsStep}
use Rattle.protocol_model.specs.Runs.{AreSteps, last_of, IsBadRun}
use Rattle.protocol_steps.specs.declared.runs.RunAnswer.{RunAnswer}
use Rattle.protocol_steps.specs.declared.runs.RunAnswer.TheVariants.{BadRun, NotInitial, NotStep, NotBad}

-- the run begins in an initial configuration, and its step of this number is the first that does not lead from the configuration before it
pub record IsFirstWrongStep (s : SystemData) (run : Run) (number : ℕ) : Type 0 where
  pub begins : IsTrue (is_initial s run.first)
  pub before : List (ℕ × Configuration)
  pub wrong : ℕ × Configuration
  pub after : List (ℕ × Configuration)
  pub cut : run.steps ≡ before ++ wrong ∷ after
  pub counted : number ≡ length before + 1
  pub goes : AreSteps s run.first before
  pub no_step : IsStep s wrong.0 (last_of run.first before) wrong.1 → ⊥

-- the run begins in an initial configuration and goes by steps, but its last configuration is not bad
pub record EndsNotBad (s : SystemData) (run : Run) : Type 0 where
  pub begins : IsTrue (is_initial s run.first)
  pub goes : AreSteps s run.first run.steps
  pub not_bad : IsTrue (is_bad s (last_of run.first run.steps)) → ⊥

-- the answer is the one that belongs to the run
abbrev pub IsRunAnswer : SystemData → Run → RunAnswer → Type 0
IsRunAnswer s run BadRun = IsBadRun s run
IsRunAnswer s run NotInitial = IsTrue (is_initial s run.first) → ⊥
IsRunAnswer s run (NotStep number) = IsFirstWrongStep s run number
IsRunAnswer s run NotBad = EndsNotBad s run
