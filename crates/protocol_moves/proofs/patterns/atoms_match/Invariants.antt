use Rattle.std.proofs.Common.{◌≡◌, length, drop}
use Rattle.protocol_model.specs.Patterns.{atoms_match}
use Rattle.protocol_moves.proofs.Simulation.{can_match}
use Rattle.protocol_moves.proofs.patterns.atoms_match.Given as goal

-- whether the list matches is decided by the atoms that are begun or going on, and the rest of the list
abbrev pub invariant-letters : goal.invariant-letters
invariant-letters l =
    (atoms_match l.atoms l.list ≡ can_match l.atoms l.begun l.going (drop l.letter-index l.list))
    × (length l.begun ≡ 33) × (length l.going ≡ 32)
