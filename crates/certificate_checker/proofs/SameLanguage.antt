-- A judgement depends on the language of an automaton alone.
use Rattle.std.proofs.Common.{ℕ, IsTrue, sym, subst, ◌∙◌}
use Rattle.word_automata.specs.Automaton.{Automaton}
use Rattle.minimise.specs.Canonical.{SameLanguage}
use Rattle.protocol_model.specs.declared.system.Configuration.{Configuration}
use Rattle.protocol_model.specs.System.{SystemData}
use Rattle.protocol_model.specs.Words.{word_of}
use Rattle.certificate_checker.specs.Proof.{Proves}
use Rattle.certificate_checker.specs.Answers.{IsAutomatonAnswer, IsLeastConfiguration, IsLeastExit, IsMissing, IsHeld, IsExit, IsAcceptedBefore, HasNone, IsAccepted, IsRefused}
use Rattle.certificate_checker.specs.declared.answer.Answer.{Answer}
use Rattle.certificate_checker.specs.declared.answer.Answer.TheVariants.{Valid, InitialMissing, BadHeld, Leaves, NotInitial, NotStep, NotBad}

reversed : (m n : Automaton) → SameLanguage m n → SameLanguage n m
reversed m n same w = sym (same w)

-- a least configuration with a property is one with any other that the same configurations have
least_alike : (s : SystemData) (P Q : Configuration → Type 0) → ((c : Configuration) → P c → Q c) → ((c : Configuration) → Q c → P c)
    → (c : Configuration) → IsLeastConfiguration s P c → IsLeastConfiguration s Q c
least_alike s P Q to back c least = (to c least.0, λ d has before. least.1 d (back d has) before)

none_alike : (P Q : Configuration → Type 0) → ((c : Configuration) → Q c → P c) → HasNone P → HasNone Q
none_alike P Q back none c has = none c (back c has)

module _ (s : SystemData) (m n : Automaton) (same : SameLanguage m n) where
  accepted_alike : (c : Configuration) → IsAccepted s n c → IsAccepted s m c
  accepted_alike c h = subst IsTrue (sym (same (word_of s c))) h

  refused_alike : (c : Configuration) → IsRefused s n c → IsRefused s m c
  refused_alike c h = same (word_of s c) ∙ h

  missing_alike : (c : Configuration) → IsMissing s n c → IsMissing s m c
  missing_alike c h = (h.0, refused_alike c h.1)

  held_alike : (c : Configuration) → IsHeld s n c → IsHeld s m c
  held_alike c h = (h.0, accepted_alike c h.1)

  before_alike : (r : ℕ) (d c : Configuration) → IsAcceptedBefore s n r d c → IsAcceptedBefore s m r d c
  before_alike r d c h = (accepted_alike c h.0, h.1)

  left_alike : (r : ℕ) (d : Configuration) → IsExit s n r d → IsExit s m r d
  left_alike r d h = (refused_alike d h.0, (h.1.0, before_alike r d h.1.0 h.1.1))

module _ (s : SystemData) (m n : Automaton) (same : SameLanguage m n) where
  exit_alike : (r : ℕ) (c d : Configuration) → IsLeastExit s n r c d → IsLeastExit s m r c d
  exit_alike r c d h = record {
    earlier_rules = λ q e less left. h.earlier_rules q e less (left_alike s n m (reversed m n same) q e left);
    after = least_alike s (IsExit s n r) (IsExit s m r) (left_alike s m n same r) (left_alike s n m (reversed m n same) r) d h.after;
    before = least_alike s (IsAcceptedBefore s n r d) (IsAcceptedBefore s m r d) (before_alike s m n same r d)
        (before_alike s n m (reversed m n same) r d) c h.before;
  }

  proves_alike : Proves s n → Proves s m
  proves_alike h = record {
    initial = λ c is. accepted_alike s m n same c (h.initial c is);
    closed = λ r c d accepted step. accepted_alike s m n same d (h.closed r c d (accepted_alike s n m (reversed m n same) c accepted) step);
    no_bad = λ c is accepted. h.no_bad c is (accepted_alike s n m (reversed m n same) c accepted);
  }

  none_missing : HasNone (IsMissing s n) → HasNone (IsMissing s m)
  none_missing = none_alike (IsMissing s n) (IsMissing s m) (missing_alike s n m (reversed m n same))

  none_held : HasNone (IsHeld s n) → HasNone (IsHeld s m)
  none_held = none_alike (IsHeld s n) (IsHeld s m) (held_alike s n m (reversed m n same))

  pub answers_alike : (answer : Answer) → IsAutomatonAnswer s n answer → IsAutomatonAnswer s m answer
  answers_alike Valid h = proves_alike h
  answers_alike (InitialMissing c) h =
      least_alike s (IsMissing s n) (IsMissing s m) (missing_alike s m n same) (missing_alike s n m (reversed m n same)) c h
  answers_alike (BadHeld c) h = (
    none_missing h.0,
    least_alike s (IsHeld s n) (IsHeld s m) (held_alike s m n same) (held_alike s n m (reversed m n same)) c h.1,
  )
  answers_alike (Leaves r c d) h = (none_missing h.0, none_held h.1, exit_alike r c d h.2)
  answers_alike NotInitial h = h
  answers_alike (NotStep k) h = h
  answers_alike NotBad h = h
