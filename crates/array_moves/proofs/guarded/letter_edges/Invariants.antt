use Rattle.array_moves.specs.private.ControlStates.{LetterEdges}
use Rattle.array_moves.proofs.guarded.letter_edges.Given as goal

abbrev pub invariant-letters : goal.invariant-letters
invariant-letters l = LetterEdges l.guard_table l.alphabet.offset l.letter l.control l.initial.controls.keys l.controls.keys l.edges.items
