use Rattle.std.proofs.Common.{take}
use Rattle.section_patterns.specs.private.Languages.{AddsLetterEdges}
use Rattle.section_patterns.proofs.states.add_edges.Given as goal

abbrev pub invariant-letters : goal.invariant-letters
invariant-letters l = AddsLetterEdges l.initial.builder l.builder l.from (take l.letter-index l.letters) l.to
