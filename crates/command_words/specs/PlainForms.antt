-- The plain forms of each command mean what one expects.
use Rattle.std.specs.Prelude.{◌≡◌, ℕ, false, List, [], ◌∷◌, codes, Some}
use Rattle.command_words.specs.declared.Limits.{Limits}
use Rattle.command_words.specs.declared.Query.TheVariants.{Check, Back, Deadlock, Past}
use Rattle.command_words.specs.Words.{checking_all, command_of, default_budget, default_settings, is_empty, kind_of, migrate, most_bound, most_budget, number_in, plain, searching, show, steps, verify}

-- a word that is not empty and is no option
pub record IsPlain (word : List ℕ) : Type 0 where
  pub is_full : is_empty word ≡ false
  pub is_plain : kind_of word ≡ plain

abbrev pub default_limits : Limits
default_limits = record { budget = default_budget; workers = 1 }

pub record PlainFormsMean : Type 0 where
  pub shown : (file : List ℕ) → IsPlain file → command_of (codes "show" ∷ (file ∷ [])) ≡ Some (show file)
  pub checked : (file : List ℕ) → IsPlain file
      → command_of (codes "check" ∷ (file ∷ [])) ≡ Some (searching file (Check default_settings) default_limits)
  pub verified : (file certificate : List ℕ) → IsPlain file → IsPlain certificate
      → command_of (codes "verify" ∷ (file ∷ (certificate ∷ []))) ≡ Some (verify file certificate)
  pub stepped : (file configuration : List ℕ) → IsPlain file → IsPlain configuration
      → command_of (codes "steps" ∷ (file ∷ (configuration ∷ []))) ≡ Some (steps file configuration)
  pub migrated : (file certificate : List ℕ) → IsPlain file → IsPlain certificate
      → command_of (codes "migrate" ∷ (file ∷ (certificate ∷ []))) ≡ Some (migrate file certificate)
  pub searched_back : (file : List ℕ) → IsPlain file
      → command_of (codes "back" ∷ (file ∷ [])) ≡ Some (searching file Back default_limits)
  pub searched_for_deadlocks : (file : List ℕ) → IsPlain file
      → command_of (codes "deadlock" ∷ (file ∷ [])) ≡ Some (searching file Deadlock default_limits)
  pub searched_by_pasts : (file : List ℕ) → IsPlain file
      → command_of (codes "past" ∷ (file ∷ [])) ≡ Some (searching file (Past 0) default_limits)
  pub past_bounded : (file number : List ℕ) (bound : ℕ) → IsPlain file → IsPlain number → number_in 0 most_bound number ≡ Some bound
      → command_of (codes "past" ∷ (file ∷ (codes "--bound" ∷ (number ∷ [])))) ≡ Some (searching file (Past bound) default_limits)
  pub checked_all : (file properties : List ℕ) → IsPlain file → IsPlain properties
      → command_of (codes "checkall" ∷ (file ∷ (properties ∷ []))) ≡ Some (checking_all file properties default_limits)
  pub bounded : (file number : List ℕ) (budget : ℕ) → IsPlain file → IsPlain number → number_in 1 most_budget number ≡ Some budget
      → command_of (codes "check" ∷ (file ∷ (codes "--budget" ∷ (number ∷ []))))
      ≡ Some (searching file (Check default_settings) (record default_limits { budget = budget }))
