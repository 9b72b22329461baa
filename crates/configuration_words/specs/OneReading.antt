-- Laws: a text means at most one configuration of a system or has at most one first fault, and never both.
use Rattle.std.specs.Prelude.{◌≡◌, ℕ, List}
use Rattle.protocol_model.specs.declared.system.Configuration.{Configuration}
use Rattle.protocol_model.specs.System.{SystemData, IsValid}
use Rattle.configuration_words.specs.declared.fault.ConfigFault.{ConfigFault}
use Rattle.configuration_words.specs.ConfigurationText.{MeansConfiguration, IsFirstFault}

abbrev pub ConfigurationIsDetermined : Type 0
ConfigurationIsDetermined =
    (s : SystemData) → IsValid s → (text : List ℕ) (c d : Configuration) → MeansConfiguration s text c → MeansConfiguration s text d → c ≡ d

abbrev pub FaultIsDetermined : Type 0
FaultIsDetermined =
    (s : SystemData) (text : List ℕ) (fault other : ConfigFault) → IsFirstFault s text fault → IsFirstFault s text other → fault ≡ other

abbrev pub FaultExcludesConfiguration : Type 0
FaultExcludesConfiguration =
    (s : SystemData) (text : List ℕ) (fault : ConfigFault) (c : Configuration) → IsFirstFault s text fault → MeansConfiguration s text c → ⊥
