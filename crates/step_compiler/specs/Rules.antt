-- The step of one rule on the words of configurations.
use Rattle.std.specs.Prelude.{◌≡◌, ℕ, List}
use Rattle.protocol_model.specs.declared.system.Configuration.{Configuration}
use Rattle.protocol_model.specs.System.{SystemData}
use Rattle.protocol_model.specs.Steps.{IsStep}
use Rattle.protocol_model.specs.Words.{word_of}

-- the words are those of two configurations, and rule number r leads from the one to the other
pub record IsRuleStep (s : SystemData) (r : ℕ) (u w : List ℕ) : Type 0 where
  pub old : Configuration
  pub new : Configuration
  pub word_before : u ≡ word_of s old
  pub word_after : w ≡ word_of s new
  pub step : IsStep s r old new
