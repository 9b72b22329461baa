-- Runs of a system, and bad runs.
use Rattle.std.specs.Prelude.{ℕ, List, [], ◌∷◌, IsTrue}
use Rattle.protocol_model.specs.declared.system.Configuration.{Configuration}
use Rattle.protocol_model.specs.declared.system.Run.{Run}
use Rattle.protocol_model.specs.System.{SystemData}
use Rattle.protocol_model.specs.Patterns.{is_initial, is_bad}
use Rattle.protocol_model.specs.Steps.{IsStep}

-- each pair of a rule and a configuration is a step from the configuration before it
abbrev pub AreSteps : SystemData → Configuration → List (ℕ × Configuration) → Type 0
AreSteps s c [] = Unit {0}
AreSteps s c (step ∷ steps) = IsStep s step.0 c step.1 × AreSteps s step.1 steps

-- the configuration in which the steps from c end
abbrev pub last_of : Configuration → List (ℕ × Configuration) → Configuration
last_of c [] = c
last_of c (step ∷ steps) = last_of step.1 steps

-- the run begins in an initial configuration, goes by steps, and ends in a bad one
pub record IsBadRun (s : SystemData) (run : Run) : Type 0 where
  pub begins : IsTrue (is_initial s run.first)
  pub goes : AreSteps s run.first run.steps
  pub ends : IsTrue (is_bad s (last_of run.first run.steps))
