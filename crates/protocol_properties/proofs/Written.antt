-- Sections that are written as a text and read again are the same, and keep the limits.
use Rattle.std.proofs.Common.{◌≡◌, ◌≤◌, ◌∙◌, ℕ, List, [], ◌∷◌, map, length, refl, ap, arith}
use Rattle.std.specs.List.{AllByRecursion}
use Rattle.protocol_syntax.specs.declared.limits.TheConstants.{MAX_LETTERS, MAX_SECTIONS}
use Rattle.protocol_syntax.specs.declared.protocol.SectionText.{SectionText}
use Rattle.protocol_model.specs.declared.names.TheConstants.{MAX_NAMES}
use Rattle.protocol_model.specs.declared.system.Section.{Section}
use Rattle.protocol_model.specs.System.{total_letters, letter_count}
use Rattle.protocol_model.specs.Numbering.{texts_of, section_of}
use Rattle.protocol_model.proofs.ForCallers.{length_map, all_of_map, each_at_most}
use Rattle.protocol_properties.specs.Sections.{name_of, names_of, section_text}

texts_back : (texts : List (List ℕ)) → texts_of (names_of texts) ≡ texts
texts_back [] = refl
texts_back (text ∷ texts) = ap (λ xs. text ∷ xs) (texts_back texts)

abbrev with_letters : Section → List (List ℕ) → Section
with_letters section letters = record { name = section.name; kind = section.kind; letters = letters }

section_back : (section : Section) → section_of (section_text section) ≡ section
section_back section = ap (with_letters section) (texts_back section.letters)

pub sections_back : (sections : List Section) → map section_of (map section_text sections) ≡ sections
sections_back [] = refl
sections_back (section ∷ sections) =
    ap (λ x. x ∷ map section_of (map section_text sections)) (section_back section) ∙ ap (λ xs. section ∷ xs) (sections_back sections)

pub few_sections : (sections : List Section) → length sections ≤ MAX_SECTIONS → length (map section_text sections) ≤ MAX_NAMES
few_sections sections h = rw (length_map section_text sections) (omega (arith, h))

pub few_letters : (sections : List Section) → total_letters sections ≤ MAX_LETTERS →
    AllByRecursion (λ (text : SectionText). length text.letters ≤ MAX_NAMES) (map section_text sections)
few_letters sections h =
    all_of_map (λ section. letter_count section ≤ MAX_NAMES) (λ (text : SectionText). length text.letters ≤ MAX_NAMES) section_text
    (λ section few. rw (length_map name_of section.letters) few) sections (each_at_most letter_count MAX_NAMES sections h)
