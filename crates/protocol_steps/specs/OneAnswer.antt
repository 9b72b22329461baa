-- Laws: a configuration has one list of successors, and a run has one answer.
use Rattle.std.specs.Prelude.{◌≡◌, ℕ, List}
use Rattle.protocol_model.specs.declared.system.Configuration.{Configuration}
use Rattle.protocol_model.specs.declared.system.Run.{Run}
use Rattle.protocol_model.specs.System.{SystemData}
use Rattle.protocol_steps.specs.declared.runs.RunAnswer.{RunAnswer}
use Rattle.protocol_steps.specs.Answers.{IsRunAnswer}
use Rattle.protocol_steps.specs.Successors.{AreSuccessors}

abbrev pub SuccessorsAreDetermined : Type 0
SuccessorsAreDetermined =
    (s : SystemData) (c : Configuration) (pairs others : List (ℕ × Configuration)) → AreSuccessors s c pairs → AreSuccessors s c others
    → pairs ≡ others

abbrev pub RunAnswerIsDetermined : Type 0
RunAnswerIsDetermined =
    (s : SystemData) (run : Run) (answer other : RunAnswer) → IsRunAnswer s run answer → IsRunAnswer s run other → answer ≡ other
