use Rattle.std.proofs.Common.{◌≡◌, map, take}
use Rattle.array_moves.specs.private.Fixed.{copying_state}
use Rattle.array_moves.proofs.fixed.copying_states.Given as goal

abbrev pub invariant-parts : goal.invariant-parts
invariant-parts l = l.states.items ≡ map (λ part. copying_state l.alphabet.offset l.alphabet.count part.0 part.1 part.2.now) (take l.part-index l.parts)
