-- What a rule does to one section, on words over the letters of all sections. The functions inside of the crate cite it.
use Rattle.std.specs.Prelude.{◌≡◌, ◌==◌, ◌||◌, ◌+◌, ◌↔◌, ℕ, List, [], ◌∷◌, Option, IsTrue, length}
use Rattle.protocol_syntax.specs.declared.protocol.Kind.{Kind}
use Rattle.protocol_model.specs.declared.system.Section.{Section}
use Rattle.protocol_model.specs.System.{Move, belongs_to, IsValidMove, letter_count}
use Rattle.protocol_model.specs.Patterns.{has_any_length, list_fits}
use Rattle.protocol_model.specs.Steps.{ChangesBy, move_of}
use Rattle.protocol_model.specs.Words.{raised}
use Rattle.transducers.specs.Transducer.{Transducer, Relates}

-- the list stays; it has one letter where the section is a cell
abbrev pub Stays : Kind → List ℕ → List ℕ → Type 0
Stays kind old new = (old ≡ new) × IsTrue (has_any_length kind || (length old == 1))

-- the move belongs to the section's kind, and has letters of this section
pub record IsMoveOf (section : Section) (move : Move) : Type 0 where
  pub of_kind : IsTrue (belongs_to move section.kind)
  pub valid : IsValidMove (letter_count section) move

-- the words are two lists that fit the section, with each letter raised by the offset; the list moves where there is a move, else it stays
pub record IsSectionStep (section : Section) (move : Option Move) (offset : ℕ) (u w : List ℕ) : Type 0 where
  pub old : List ℕ
  pub new : List ℕ
  pub old_fits : IsTrue (list_fits section old)
  pub new_fits : IsTrue (list_fits section new)
  pub word_before : u ≡ raised offset old
  pub word_after : w ≡ raised offset new
  pub changes : ChangesBy move old new

-- the transducer has so many letters, and relates the words of the section before and after the move, or before and after none
pub record IsSectionTransducer (section : Section) (move : Option Move) (letters offset : ℕ) (part : Transducer) : Type 0 where
  pub same_letters : part.letters ≡ letters
  pub related : (u w : List ℕ) → Relates part u w ↔ IsSectionStep section move offset u w

-- there is such a transducer for each of the sections, whose numbers and offsets count from these on
abbrev pub AreSectionTransducers : List (ℕ × Move) → ℕ → ℕ → ℕ → List Section → List Transducer → Type 0
AreSectionTransducers moves letters number offset [] [] = Unit {0}
AreSectionTransducers moves letters number offset [] (part ∷ parts) = ⊥
AreSectionTransducers moves letters number offset (section ∷ sections) [] = ⊥
AreSectionTransducers moves letters number offset (section ∷ sections) (part ∷ parts) =
    IsSectionTransducer section (move_of moves number) letters offset part
    × AreSectionTransducers moves letters (number + 1) (offset + letter_count section) sections parts
