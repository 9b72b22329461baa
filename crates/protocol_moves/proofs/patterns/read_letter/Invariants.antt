use Rattle.std.proofs.Common.{◌≡◌, false, take, drop, ◌++◌}
use Rattle.protocol_moves.specs.private.Simulation.{begun_after, going_after}
use Rattle.protocol_moves.proofs.patterns.read_letter.Given as goal

-- the atoms before j are done, and what is left is decided by the others
abbrev pub invariant-atoms : goal.invariant-atoms
invariant-atoms l =
    (begun_after l.letter false false l.atoms l.initial.begun l.initial.going
    ≡ (take l.j l.begun ++ begun_after l.letter l.reached l.next (drop l.j l.atoms) (drop l.j l.begun) (drop l.j l.going)))
    × (going_after l.letter false l.atoms l.initial.begun l.initial.going
    ≡ (take l.j l.going ++ going_after l.letter l.reached (drop l.j l.atoms) (drop l.j l.begun) (drop l.j l.going)))
