-- The reply of `steps`.
use Rattle.std.specs.Prelude.{◌≡◌, ◌⊎◌, ℕ, List, ◌++◌, codes}
use Rattle.std.specs.List.{flat_map}
use Rattle.protocol_model.specs.declared.system.Configuration.{Configuration}
use Rattle.protocol_model.specs.System.{SystemData}
use Rattle.protocol_steps.specs.Successors.{AreSuccessors}
use Rattle.configuration_words.specs.declared.fault.ConfigFault.{ConfigFault}
use Rattle.configuration_words.specs.ConfigurationText.{MeansConfiguration, IsFirstFault}
use Rattle.configuration_words.specs.Texts.{configuration_text}
use Rattle.certificate.specs.RunText.{rule_name}
use Rattle.command_replies.specs.declared.status.Status.TheVariants.{Done, CertificateRefused}
use Rattle.command_replies.specs.declared.reply.Reply.{Reply}
use Rattle.command_replies.specs.Line.{line}
use Rattle.command_replies.specs.Refusal.{configuration_refusal_text}
use Rattle.command_replies.specs.Reply.{on_out, on_err}

-- the line of a rule and the configuration to which it leads
abbrev pub successor_line : SystemData → ℕ × Configuration → List ℕ
successor_line s pair = line (rule_name s pair.0 ++ codes " -> " ++ configuration_text s pair.1)

abbrev pub successors_text : SystemData → List (ℕ × Configuration) → List ℕ
successors_text s pairs = flat_map (successor_line s) pairs

-- the lines of the successors of the configuration that the text means
pub record ListsSuccessors (s : SystemData) (text : List ℕ) (reply : Reply) : Type 0 where
  pub configuration : Configuration
  pub pairs : List (ℕ × Configuration)
  pub means : MeansConfiguration s text configuration
  pub are_successors : AreSuccessors s configuration pairs
  pub reply_is : reply ≡ on_out Done (successors_text s pairs)

-- the first fault of the configuration's text is told
pub record RefusesConfiguration (s : SystemData) (text : List ℕ) (reply : Reply) : Type 0 where
  pub fault : ConfigFault
  pub is_first : IsFirstFault s text fault
  pub reply_is : reply ≡ on_err CertificateRefused (line (configuration_refusal_text fault))

-- the reply for a system and the text of a configuration
abbrev pub IsStepsReply : SystemData → List ℕ → Reply → Type 0
IsStepsReply s text reply = ListsSuccessors s text reply ⊎ RefusesConfiguration s text reply
