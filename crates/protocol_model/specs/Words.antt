-- The words of configurations. Letters of all sections are numbered together, section after section; the separator comes last.
use Rattle.std.specs.Prelude.{◌≡◌, ◌+◌, ℕ, List, [], ◌∷◌, ◌++◌, IsTrue, map}
use Rattle.protocol_model.specs.declared.system.Section.{Section}
use Rattle.protocol_model.specs.declared.system.Configuration.{Configuration}
use Rattle.protocol_model.specs.System.{SystemData, letter_count, total_letters}
use Rattle.protocol_model.specs.Patterns.{is_initial, is_bad}
use Rattle.protocol_model.specs.Steps.{IsStep}

-- the list with each letter raised by the offset
abbrev pub raised : ℕ → List ℕ → List ℕ
raised offset list = map (λ a. a + offset) list

-- each section's list, raised by the number of letters of the sections before it
abbrev pub raised_lists : ℕ → List Section → List (List ℕ) → List (List ℕ)
raised_lists offset [] lists = []
raised_lists offset (section ∷ sections) [] = []
raised_lists offset (section ∷ sections) (list ∷ lists) =
    raised offset list ∷ raised_lists (offset + letter_count section) sections lists

-- the words one after the other, with one separator between neighbours
abbrev pub joined : ℕ → List (List ℕ) → List ℕ
joined separator [] = []
joined separator (word ∷ []) = word
joined separator (word ∷ (next ∷ words)) = word ++ separator ∷ joined separator (next ∷ words)

-- the separator, which is also the number of all letters of the sections
abbrev pub separator_of : SystemData → ℕ
separator_of s = total_letters s.sections

-- the number of letters of the system's automata
abbrev pub automata_letters : SystemData → ℕ
automata_letters s = total_letters s.sections + 1

-- the word of a configuration
abbrev pub word_of : SystemData → Configuration → List ℕ
word_of s c = joined (separator_of s) (raised_lists 0 s.sections c.lists)

-- the word is that of an initial configuration
abbrev pub IsInitialWord : SystemData → List ℕ → Type 0
IsInitialWord s w = (c : Configuration) × IsTrue (is_initial s c) × (w ≡ word_of s c)

-- the word is that of a bad configuration
abbrev pub IsBadWord : SystemData → List ℕ → Type 0
IsBadWord s w = (c : Configuration) × IsTrue (is_bad s c) × (w ≡ word_of s c)

-- the words are those of two configurations between which some rule leads
pub record IsWordStep (s : SystemData) (u w : List ℕ) : Type 0 where
  pub rule : ℕ
  pub old : Configuration
  pub new : Configuration
  pub word_before : u ≡ word_of s old
  pub word_after : w ≡ word_of s new
  pub step : IsStep s rule old new
