-- The text of a certificate that is a run, and the run that it means: what its lines say as they are read. The text that is written of a run is
-- `unsafe_text`.
use Rattle.std.specs.Prelude.{◌≡◌, ◌<◌, ℕ, true, List, [], ◌∷◌, ◌++◌, IsTrue, map, length, slice_get, codes}
use Rattle.std.specs.List.{AllByRecursion, flat_map}
use Rattle.std.specs.Option.{option_map_or}
use Rattle.protocol_model.specs.declared.system.Configuration.{Configuration}
use Rattle.protocol_model.specs.declared.system.Run.{Run}
use Rattle.protocol_model.specs.System.{SystemData}
use Rattle.protocol_model.specs.Patterns.{fits}
use Rattle.configuration_words.specs.Texts.{configuration_text}
use Rattle.lines.specs.Document.{HasAnswer, means}
use Rattle.certificate.specs.Stages.{Stage, certificate, is_run}

-- the name of the rule of this number
abbrev pub rule_name : SystemData → ℕ → List ℕ
rule_name s r = option_map_or (λ rule. rule.name) (slice_get s.rules r) []

-- the line of the first configuration, without its line feed
abbrev pub start_line : SystemData → Configuration → List ℕ
start_line s c = codes "start " ++ configuration_text s c

-- the line of a step, without its line feed: the name of its rule, and the configuration after it
abbrev pub step_line : SystemData → ℕ × Configuration → List ℕ
step_line s step = codes "step " ++ rule_name s step.0 ++ codes " " ++ configuration_text s step.1

-- the text of a run under a first line; each line ends with a line feed
abbrev pub run_text : List ℕ → SystemData → Run → List ℕ
run_text first s run =
    flat_map (λ line. line ++ 10 ∷ []) (first ∷ (start_line s run.first ∷ (map (step_line s) run.steps ++ codes "end" ∷ [])))

-- the text that is written of a certificate that is this run
abbrev pub unsafe_text : SystemData → Run → List ℕ
unsafe_text s run = run_text (codes "armc 1 unsafe") s run

-- the text of the lines of steps, each ended by a line feed
abbrev pub steps_text : SystemData → List (ℕ × Configuration) → List ℕ
steps_text s steps = flat_map (λ step. step_line s step ++ 10 ∷ []) steps

-- the rule of the step exists, and the configuration after it fits
abbrev pub IsStepOf : SystemData → ℕ × Configuration → Type 0
IsStepOf s step = (step.0 < length s.rules) × IsTrue (fits s step.1)

-- all configurations of the run fit, and all its rules exist
pub record IsRunOf (s : SystemData) (run : Run) : Type 0 where
  pub first_fits : IsTrue (fits s run.first)
  pub steps_fit : AllByRecursion (IsStepOf s) run.steps

-- the text means the run: its lines, as they were read at its end, are those of a run, and say it
pub record MeansRun (s : SystemData) (text : List ℕ) (run : Run) : Type 0 where
  pub read : Stage
  pub is_read : HasAnswer (certificate s) text (means read)
  pub of_run : is_run read.place ≡ true
  pub first_is : run.first ≡ read.first
  pub steps_are : run.steps ≡ read.steps
  pub is_run : IsRunOf s run
