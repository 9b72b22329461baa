use Rattle.std.proofs.Common.{◌≡◌, length, ap, sym, ◌∙◌, set, arith}
use Rattle.protocol_moves.proofs.Simulation.{begun_last, going_last}
use Rattle.protocol_moves.proofs.patterns.read_letter.Goals as goal

pub returns-clause-begun : goal.returns-clause-begun
returns-clause-begun c =
    let l = c.atoms in
    let last : l.j ≡ length c.args.atoms.now = omega (arith, c.atoms-test.false, l.auto.j-end) in
    sym (l.invariant.0
    ∙ begun_last c.args.letter l.reached l.next c.args.atoms.now l.j l.begun l.going last (omega (arith, c.requires.begun_room, l.auto.begun))
    ∙ ap (λ j. set l.begun j l.next) last)

pub returns-clause-going : goal.returns-clause-going
returns-clause-going c =
    let l = c.atoms in
    let last : l.j ≡ length c.args.atoms.now = omega (arith, c.atoms-test.false, l.auto.j-end) in
    sym (l.invariant.1
    ∙ going_last c.args.letter l.reached c.args.atoms.now l.j l.begun l.going last (omega (arith, c.requires.begun_room, l.auto.begun)))
