use Rattle.std.proofs.Common.{◌≡◌, drop}
use Rattle.protocol_model.specs.Steps.{move_of}
use Rattle.step_compiler.proofs.sections.find_move.Given as goal

abbrev pub invariant-moves : goal.invariant-moves
invariant-moves l = move_of l.moves l.number ≡ move_of (drop l.part-index l.moves) l.number
