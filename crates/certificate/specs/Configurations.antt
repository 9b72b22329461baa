-- The configurations in the lines of runs.
use Rattle.std.specs.Prelude.{◌==◌, ℕ, Bool, true, false, List, [], ◌∷◌, codes, if◌then◌else◌}
use Rattle.protocol_model.specs.declared.system.Section.{Section}
use Rattle.protocol_model.specs.declared.system.Configuration.{Configuration}
use Rattle.protocol_model.specs.System.{letter_count}
use Rattle.protocol_model.specs.Patterns.{has_any_length}
use Rattle.lines.specs.Grammar.{Line, just, cut, fields, means, after, each, numbered}
use Rattle.certificate.specs.Words.{a_name}

-- any number of letters with these names, or `empty`; or just one letter
abbrev pub list : Bool → List (List ℕ) → Line (List ℕ)
list true letters = just (codes "empty") [] (fields 32 (numbered letters a_name))
list false letters = means (λ a. a ∷ []) (numbered letters a_name)

-- the list of a part with a name; where this is not the section's name, a list with a letter that is not there
abbrev pub of_section : Section → ℕ × List ℕ → List ℕ
of_section section part = if part.0 == 0 then part.1 else letter_count section ∷ []

abbrev pub part : Section → Line (List ℕ)
part section =
    means (of_section section)
    (cut 58 (numbered (section.name ∷ []) a_name) (after (codes " ") (list (has_any_length section.kind) section.letters)))

-- a part for each section
abbrev pub configuration : List Section → Line Configuration
configuration sections = means (λ lists. record { lists = lists }) (each 59 (codes " ") part sections)
