-- Words with a property, and the configurations that they are of.
use Rattle.std.proofs.Common.{◌≡◌, ◌↔◌, ◌<◌, ℕ, Bool, List, Option, None, Some, MatchOption, All, IsTrue, refl, sym, subst, ◌∙◌}
use Rattle.sequence.specs.WordOrder.{is_before, IsLeastWord}
use Rattle.word_automata.specs.Automaton.{Automaton, accepts}
use Rattle.word_automata.specs.Nondeterministic.{Accepts, as_nondeterministic}
use Rattle.word_automata.proofs.ForCallers.{same_language}
use Rattle.minimise.specs.Canonical.{IsCanonical}
use Rattle.protocol_model.specs.declared.system.Configuration.{Configuration}
use Rattle.protocol_model.specs.System.{SystemData}
use Rattle.protocol_model.specs.Patterns.{fits}
use Rattle.protocol_model.specs.Words.{word_of, automata_letters}
use Rattle.configuration_words.proofs.ForCallers.{word_of-in_range, word_of-injective}
use Rattle.section_patterns.specs.ConfigurationWords.{IsWordOf, IsConfigurationWord}
use Rattle.certificate_checker.specs.Answers.{IsLeastConfiguration, HasNone}
use Rattle.certificate_checker.specs.private.Parts.{AreWordsOf}

module _ (s : SystemData) (P : List ℕ → Type 0) (Q : Configuration → Type 0) (are : AreWordsOf s P Q) where
  pub none-of : ((w : List ℕ) → P w → ⊥) → HasNone Q
  none-of none c is = none (word_of s c) (are.spelled c is)

  module _ (w v : List ℕ) (same : v ≡ w) where
    pub some-of : P w → IsConfigurationWord s v
    some-of is = let found = are.read w is in (found.0, (are.fitting found.0 found.1, same ∙ found.2))

    pub in_range-of : (letters : ℕ) → letters ≡ automata_letters s → P w → All (λ a. a < letters) v
    in_range-of letters over is =
        let found = some-of is in
        subst (λ (x : List ℕ). All (λ a. a < letters) x) (sym found.1.1)
        (subst (λ (n : ℕ). All (λ a. a < n) (word_of s found.0)) (sym over) (word_of-in_range s found.0 found.1.0))

    -- the configuration of the least word is the least
    pub least-of : (c : Configuration) → IsLeastWord P w → IsWordOf s v c → IsLeastConfiguration s Q c
    least-of c least word =
        let found = are.read w least.0 in
        let spells : w ≡ word_of s c = sym same ∙ word.1 in
        let is : found.0 ≡ c = word_of-injective s found.0 c (are.fitting found.0 found.1) word.0 (sym found.2 ∙ spells) in (
          subst Q is found.1,
          λ d has before. least.1 (word_of s d) (are.spelled d has) (subst (λ (x : List ℕ). IsTrue (is_before (word_of s d) x)) (sym spells) before),
        )

-- a least word of a language is one of each language with the same words
pub least-alike : {X : Type 0} (items : X → List ℕ) (P Q : List ℕ → Type 0) → ((w : List ℕ) → P w ↔ Q w) → (o : Option X)
    → MatchOption o ((w : List ℕ) → P w → ⊥) (λ w. IsLeastWord P (items w))
    → MatchOption o ((w : List ℕ) → Q w → ⊥) (λ w. IsLeastWord Q (items w))
least-alike items P Q same None none = λ w is. none w ((same w).1 is)
least-alike items P Q same (Some w) least = ((same (items w)).0 least.0, λ v is. least.1 v ((same v).1 is))

-- of configurations that pass a test, whose words an automaton accepts, those with a second property of their words
pub tested : (s : SystemData) (test : Configuration → Bool) → ((c : Configuration) → IsTrue (test c) → IsTrue (fits s c))
    → (canon m : Automaton) → m ≡ canon → IsCanonical canon
    → ((w : List ℕ) → IsTrue (accepts canon w) ↔ ((c : Configuration) × IsTrue (test c) × (w ≡ word_of s c))) → (second : List ℕ → Type 0)
    → AreWordsOf s (λ w. Accepts (as_nondeterministic m) w × second w) (λ c. IsTrue (test c) × second (word_of s c))
tested s test fit canon m same canonical words second =
    subst (λ (x : Automaton). AreWordsOf s (λ w. Accepts (as_nondeterministic x) w × second w) (λ c. IsTrue (test c) × second (word_of s c))) (sym same)
    (record {
      fitting = λ c is. fit c is.0;
      spelled = λ c is. ((same_language canon canonical.valid (word_of s c)).0 ((words (word_of s c)).1 (c, is.0, refl)), is.1);
      read = λ w is.
          let found = (words w).0 ((same_language canon canonical.valid w).1 is.0) in
          (found.0, (found.1, subst second found.2 is.1), found.2);
    })
