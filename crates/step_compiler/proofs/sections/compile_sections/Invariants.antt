use Rattle.std.proofs.Common.{◌≡◌, take}
use Rattle.protocol_model.specs.System.{total_letters}
use Rattle.step_compiler.specs.Sections.{AreSectionTransducers}
use Rattle.step_compiler.proofs.sections.compile_sections.Given as goal

abbrev pub invariant-sections : goal.invariant-sections
invariant-sections l = record {
  behind : l.offset ≡ total_letters (take l.number l.sections);
  compiled : AreSectionTransducers l.moves l.letters 0 0 (take l.number l.sections) l.parts.items;
}
