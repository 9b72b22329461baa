-- The letters of a system's automata, found by their texts.
use Rattle.std.specs.Prelude.{◌≡◌, ℕ, List}
use Rattle.protocol_model.specs.System.{SystemData, IsValid}
use Rattle.certificate.specs.Words.{letter_texts}

-- the texts are those of the letters of the system's automata
pub record IsAlphabetOf (s : SystemData) (texts : List (List ℕ)) : Type 0 where
  pub valid : IsValid s
  pub texts_are : texts ≡ letter_texts s.sections
