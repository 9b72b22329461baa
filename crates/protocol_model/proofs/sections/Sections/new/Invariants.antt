use Rattle.std.proofs.Common.{◌≡◌, take, map}
use Rattle.protocol_model.specs.Numbering.{texts_of}
use Rattle.protocol_model.specs.Faults.{section_fault}
use Rattle.protocol_model.proofs.Walk.{IsWalked}
use Rattle.protocol_model.proofs.sections.Sections.new.Given as goal

-- the first sections have no fault, and are numbered, with their letters
abbrev pub invariant-sections : goal.invariant-sections
invariant-sections l =
    IsWalked section_fault (λ section. section.name.text) l.texts l.section-index l.numbers
    × (l.letters.items ≡ map (λ section. texts_of section.letters) (take l.section-index l.texts))
