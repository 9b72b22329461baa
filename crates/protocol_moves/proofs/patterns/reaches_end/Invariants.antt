use Rattle.std.proofs.Common.{◌≡◌, false, drop}
use Rattle.protocol_moves.specs.private.Simulation.{reaches_end}
use Rattle.protocol_moves.proofs.patterns.reaches_end.Given as goal

-- whether the end is reached is decided by the atoms from j on
abbrev pub invariant-atoms : goal.invariant-atoms
invariant-atoms l =
    reaches_end false l.atoms l.begun l.going ≡ reaches_end l.reached (drop l.j l.atoms) (drop l.j l.begun) (drop l.j l.going)
