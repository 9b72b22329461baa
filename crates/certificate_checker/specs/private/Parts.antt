-- What the parts of the judgement find.
use Rattle.std.specs.Prelude.{◌≡◌, ℕ, false, List, IsTrue}
use Rattle.word_automata.specs.Automaton.{Automaton, accepts}
use Rattle.transducers.specs.Transducer.{Transducer, Relates}
use Rattle.protocol_model.specs.declared.system.Configuration.{Configuration}
use Rattle.protocol_model.specs.System.{SystemData}
use Rattle.protocol_model.specs.Patterns.{fits}
use Rattle.protocol_model.specs.Words.{word_of}
use Rattle.image_preimage.specs.Images.{IsImage, IsPreimage}
use Rattle.certificate_checker.specs.Answers.{IsLeastConfiguration, IsExit, IsAcceptedBefore}

-- d is the least refused configuration to which the rule leads from an accepted one, and c the least of these
pub record IsLeastExitBy (s : SystemData) (m : Automaton) (r : ℕ) (c d : Configuration) : Type 0 where
  pub after : IsLeastConfiguration s (IsExit s m r) d
  pub before : IsLeastConfiguration s (IsAcceptedBefore s m r d) c

-- the words with the first property are those of the configurations with the second, which fit
pub record AreWordsOf (s : SystemData) (P : List ℕ → Type 0) (Q : Configuration → Type 0) : Type 0 where
  pub fitting : (c : Configuration) → Q c → IsTrue (fits s c)
  pub spelled : (c : Configuration) → Q c → P (word_of s c)
  pub read : (w : List ℕ) → P w → (c : Configuration) × Q c × (w ≡ word_of s c)

-- the automaton refuses the word, to which the transducer relates one that it accepts
abbrev pub IsReached : Transducer → Automaton → List ℕ → Type 0
IsReached t m w = IsImage t m w × (accepts m w ≡ false)

-- the first automaton accepts the word, which the transducer relates to one that the second accepts
abbrev pub IsSource : Transducer → Automaton → Automaton → List ℕ → Type 0
IsSource t m last w = IsPreimage t last w × IsTrue (accepts m w)

-- the automaton accepts the word w, and the transducer relates it to the word v
abbrev pub IsBefore : Transducer → Automaton → List ℕ → List ℕ → Type 0
IsBefore t m v w = Relates t w v × IsTrue (accepts m w)
