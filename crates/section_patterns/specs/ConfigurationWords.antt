-- The words of the configurations of a system.
use Rattle.std.specs.Prelude.{◌≡◌, ℕ, List, IsTrue}
use Rattle.protocol_model.specs.declared.system.Configuration.{Configuration}
use Rattle.protocol_model.specs.System.{SystemData}
use Rattle.protocol_model.specs.Patterns.{fits}
use Rattle.protocol_model.specs.Words.{word_of}

-- the word is that of the configuration, which fits
abbrev pub IsWordOf : SystemData → List ℕ → Configuration → Type 0
IsWordOf s w c = IsTrue (fits s c) × (w ≡ word_of s c)

-- the word is that of a configuration that fits
abbrev pub IsConfigurationWord : SystemData → List ℕ → Type 0
IsConfigurationWord s w = (c : Configuration) × IsWordOf s w c
