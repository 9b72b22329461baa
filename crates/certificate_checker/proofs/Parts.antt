-- The parts of the judgement: missing initial configurations, bad ones that are held, and steps that lead out.
use Rattle.std.proofs.Common.{◌≡◌, ℕ, Bool, true, false, List, Option, None, Some, MatchOption, IsTrue, ◌↔◌, refl, sym, subst, ◌∙◌}
use Rattle.std.proofs.lemmas.Bool.{both_ways}
use Rattle.sequence.specs.WordOrder.{IsLeastWord}
use Rattle.word_automata.specs.Automaton.{Automaton, accepts}
use Rattle.word_automata.specs.Nondeterministic.{NondeterministicAutomaton}
use Rattle.transducers.specs.Transducer.{Transducer, Relates}
use Rattle.protocol_model.specs.declared.system.Configuration.{Configuration}
use Rattle.protocol_model.specs.System.{SystemData}
use Rattle.protocol_model.specs.Patterns.{fits, is_initial}
use Rattle.protocol_model.specs.Steps.{IsStep}
use Rattle.protocol_model.specs.Words.{word_of}
use Rattle.step_compiler.specs.Rules.{IsRuleStep}
use Rattle.boolean_operations.specs.Inclusion.{IsOutside, IsIncluded}
use Rattle.configuration_words.proofs.ForCallers.{word_of-injective}
use Rattle.certificate_checker.specs.Proof.{Proves}
use Rattle.certificate_checker.specs.Answers.{IsMissing, IsHeld, IsExit, IsAcceptedBefore, HasNone}
use Rattle.certificate_checker.specs.private.Parts.{AreWordsOf, IsReached, IsSource, IsBefore}

-- the sources of the one word that an automaton accepts are the words before it
pub source-alike : (t : Transducer) (m : Automaton) (word : List ℕ) (last : Automaton) → ((w : List ℕ) → IsTrue (accepts last w) ↔ (w ≡ word))
    → (w : List ℕ) → IsSource t m last w ↔ IsBefore t m word w
source-alike t m word last is_last w = (
  λ is. (subst (λ x. Relates t w x) ((is_last is.0.0).0 is.0.1) is.0.2, is.1),
  λ is. ((word, (is_last word).1 refl, is.0), is.1),
)

pub none-outside : (n : NondeterministicAutomaton) (m : Automaton) → IsIncluded n m → (w : List ℕ) → IsOutside n m w → ⊥
none-outside n m included w outside = both_ways (accepts m w) outside.1 (included w outside.0)

-- where no word is outside, the inclusion says it in another form
pub outside-or-none : {X : Type 0} (items : X → List ℕ) (n : NondeterministicAutomaton) (m : Automaton) (o : Option X)
    → MatchOption o (IsIncluded n m) (λ w. IsLeastWord (IsOutside n m) (items w))
    → MatchOption o ((w : List ℕ) → IsOutside n m w → ⊥) (λ w. IsLeastWord (IsOutside n m) (items w))
outside-or-none items n m None included = none-outside n m included
outside-or-none items n m (Some w) least = least

module _ (s : SystemData) (m : Automaton) where
  module _ (r : ℕ) (t : Transducer) (compiled : (u w : List ℕ) → Relates t u w ↔ IsRuleStep s r u w) where
    -- the refused words to which the rule leads from accepted ones are those of the configurations that are left
    pub outside : AreWordsOf s (IsReached t m) (IsExit s m r)
    outside = record {
      fitting = λ d left. left.1.1.1.fits_after;
      spelled = λ d left. (
        (
          word_of s left.1.0,
          left.1.1.0,
          (compiled (word_of s left.1.0) (word_of s d)).1
              (record { old = left.1.0; new = d; word_before = refl; word_after = refl; step = left.1.1.1 }),
        ),
        left.0,
      );
      read = λ w out.
          let found = out.0 in
          let step : IsRuleStep s r found.0 w = (compiled found.0 w).0 found.2 in (
            step.new,
            (
              subst (λ (x : List ℕ). accepts m x ≡ false) step.word_after out.1,
              (step.old, (subst (λ (x : List ℕ). IsTrue (accepts m x)) step.word_before found.1, step.step)),
            ),
            step.word_after,
          );
    }

    -- the accepted words from which the rule leads to that of a configuration are those of the accepted configurations before it
    pub before : (word : List ℕ) (d : Configuration) → IsTrue (fits s d) → word ≡ word_of s d
        → AreWordsOf s (IsBefore t m word) (IsAcceptedBefore s m r d)
    before word d fit e = record {
      fitting = λ c is. is.1.fits_before;
      spelled = λ c is. ((compiled (word_of s c) word).1 (record { old = c; new = d; word_before = refl; word_after = e; step = is.1 }), is.0);
      read = λ w is.
          let step = (compiled w word).0 is.0 in
          let new : step.new ≡ d = word_of-injective s step.new d step.step.fits_after fit (sym step.word_after ∙ e) in (
            step.old,
            (
              subst (λ (x : List ℕ). IsTrue (accepts m x)) step.word_before is.1,
              subst (λ (x : Configuration). IsStep s r step.old x) new step.step,
            ),
            step.word_before,
          );
    }

  -- an automaton that fails in no part proves the system
  pub proves : HasNone (IsMissing s m) → HasNone (IsHeld s m) → ((r : ℕ) → HasNone (IsExit s m r)) → Proves s m
  proves missing held left = record { initial = initial; closed = closed; no_bad = λ c bad accepted. held c (bad, accepted) }
    where
      initial-by : (c : Configuration) (b : Bool) → accepts m (word_of s c) ≡ b → IsTrue (is_initial s c) → accepts m (word_of s c) ≡ true
      initial-by c true e h = e
      initial-by c false e h = absurd (missing c (h, e))

      initial : (c : Configuration) → IsTrue (is_initial s c) → IsTrue (accepts m (word_of s c))
      initial c h = initial-by c (accepts m (word_of s c)) refl h

      closed-by : (r : ℕ) (c d : Configuration) (b : Bool) → accepts m (word_of s d) ≡ b → IsTrue (accepts m (word_of s c)) → IsStep s r c d
          → accepts m (word_of s d) ≡ true
      closed-by r c d true e h step = e
      closed-by r c d false e h step = absurd (left r d (e, (c, (h, step))))

      closed : (r : ℕ) (c d : Configuration) → IsTrue (accepts m (word_of s c)) → IsStep s r c d → IsTrue (accepts m (word_of s d))
      closed r c d h step = closed-by r c d (accepts m (word_of s d)) refl h step
