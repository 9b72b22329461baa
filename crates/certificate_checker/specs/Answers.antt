-- What the judgement of a certificate finds: the first part of a proof that fails, with the least configurations that show it.
use Rattle.std.specs.Prelude.{◌≡◌, ◌<◌, ℕ, false, IsTrue}
use Rattle.sequence.specs.WordOrder.{is_before}
use Rattle.word_automata.specs.Automaton.{Automaton, accepts}
use Rattle.protocol_model.specs.declared.system.Configuration.{Configuration}
use Rattle.protocol_model.specs.declared.system.Run.{Run}
use Rattle.protocol_model.specs.System.{SystemData}
use Rattle.protocol_model.specs.Patterns.{is_initial, is_bad}
use Rattle.protocol_model.specs.Steps.{IsStep}
use Rattle.protocol_model.specs.Words.{word_of, automata_letters}
use Rattle.protocol_steps.specs.Answers.{IsRunAnswer}
use Rattle.protocol_steps.specs.declared.runs.RunAnswer.TheVariants as run_answer
use Rattle.certificate.specs.declared.safe.Certificate.{Certificate}
use Rattle.certificate.specs.declared.safe.Certificate.TheVariants.{Automaton as AutomatonProof, BadRun}
use Rattle.certificate_checker.specs.Proof.{Proves}
use Rattle.certificate_checker.specs.declared.answer.Answer.{Answer}
use Rattle.certificate_checker.specs.declared.answer.Answer.TheVariants.{Valid, InitialMissing, BadHeld, Leaves, NotInitial, NotStep, NotBad}

-- the automaton accepts the word of the configuration, and it refuses it
abbrev pub IsAccepted : SystemData → Automaton → Configuration → Type 0
IsAccepted s m c = IsTrue (accepts m (word_of s c))

abbrev pub IsRefused : SystemData → Automaton → Configuration → Type 0
IsRefused s m c = accepts m (word_of s c) ≡ false

-- the configuration has the property, and no configuration with a word before its own has
abbrev pub IsLeastConfiguration : SystemData → (Configuration → Type 0) → Configuration → Type 0
IsLeastConfiguration s P c =
    P c × ((d : Configuration) → P d → IsTrue (is_before (word_of s d) (word_of s c)) → ⊥)

-- an initial configuration that the automaton refuses
abbrev pub IsMissing : SystemData → Automaton → Configuration → Type 0
IsMissing s m c = IsTrue (is_initial s c) × IsRefused s m c

-- a bad configuration that the automaton accepts
abbrev pub IsHeld : SystemData → Automaton → Configuration → Type 0
IsHeld s m c = IsTrue (is_bad s c) × IsAccepted s m c

-- an accepted configuration from which the rule leads to d
abbrev pub IsAcceptedBefore : SystemData → Automaton → ℕ → Configuration → Configuration → Type 0
IsAcceptedBefore s m r d c = IsAccepted s m c × IsStep s r c d

-- a refused configuration to which the rule leads from an accepted one
abbrev pub IsExit : SystemData → Automaton → ℕ → Configuration → Type 0
IsExit s m r d = IsRefused s m d × ((c : Configuration) × IsAcceptedBefore s m r d c)

-- the rule is the least that leads from an accepted configuration to a refused one; of the refused ones d is the least, and of the
-- accepted ones from which the rule leads to d, c is the least
pub record IsLeastExit (s : SystemData) (m : Automaton) (r : ℕ) (c d : Configuration) : Type 0 where
  pub earlier_rules : (q : ℕ) (e : Configuration) → q < r → IsExit s m q e → ⊥
  pub after : IsLeastConfiguration s (IsExit s m r) d
  pub before : IsLeastConfiguration s (IsAcceptedBefore s m r d) c

-- no configuration has the property
abbrev pub HasNone : (Configuration → Type 0) → Type 0
HasNone P = (c : Configuration) → P c → ⊥

-- the answer for an automaton: the parts of a proof are tested in the order initial, bad, steps
abbrev pub IsAutomatonAnswer : SystemData → Automaton → Answer → Type 0
IsAutomatonAnswer s m Valid = Proves s m
IsAutomatonAnswer s m (InitialMissing c) = IsLeastConfiguration s (IsMissing s m) c
IsAutomatonAnswer s m (BadHeld c) = HasNone (IsMissing s m) × IsLeastConfiguration s (IsHeld s m) c
IsAutomatonAnswer s m (Leaves r c d) = HasNone (IsMissing s m) × HasNone (IsHeld s m) × IsLeastExit s m r c d
IsAutomatonAnswer s m NotInitial = ⊥
IsAutomatonAnswer s m (NotStep k) = ⊥
IsAutomatonAnswer s m NotBad = ⊥

-- the answer for a run
abbrev pub IsAnswerToRun : SystemData → Run → Answer → Type 0
IsAnswerToRun s run Valid = IsRunAnswer s run run_answer.BadRun
IsAnswerToRun s run (InitialMissing c) = ⊥
IsAnswerToRun s run (BadHeld c) = ⊥
IsAnswerToRun s run (Leaves r c d) = ⊥
IsAnswerToRun s run NotInitial = IsRunAnswer s run run_answer.NotInitial
IsAnswerToRun s run (NotStep k) = IsRunAnswer s run (run_answer.NotStep k)
IsAnswerToRun s run NotBad = IsRunAnswer s run run_answer.NotBad

-- the answer for a certificate
abbrev pub IsAnswer : SystemData → Certificate → Answer → Type 0
IsAnswer s (AutomatonProof m) answer = IsAutomatonAnswer s m answer
IsAnswer s (BadRun run) answer = IsAnswerToRun s run answer

-- an automaton has the number of letters of the system's automata; nothing is asked of a run
abbrev pub HasLetters : SystemData → Certificate → Type 0
HasLetters s (AutomatonProof m) = m.letters ≡ automata_letters s
HasLetters s (BadRun run) = Unit {0}
