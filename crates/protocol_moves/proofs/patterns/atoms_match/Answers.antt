use Rattle.std.proofs.Common.{◌+◌, ap, sym, ◌∙◌, drop, get_or, arith, false, refl}
use Rattle.std.proofs.lemmas.List.{drop_all}
use Rattle.protocol_moves.proofs.Simulation.{can_match, first_begun, after_letter, at_end}
use Rattle.protocol_moves.proofs.patterns.atoms_match.Goals as goal
use Rattle.protocol_moves.proofs.Lists.{drop_more}

pub letters-init : goal.letters-init
letters-init c = (sym (first_begun c.args.atoms.now 32 32 c.args.list.now c.requires), refl, refl)

pub letters-preserved : goal.letters-preserved
letters-preserved c =
    let l = c.letters in
    let atoms = c.args.atoms.now in
    let list = c.args.list.now in
    let letter = get_or list l.letter-index 0 in
    let rest = drop (l.letter-index + 1) list in (
      rw (c.read_letter.ensures.begun, c.read_letter.ensures.going)
          (l.invariant.0
          ∙ ap (λ w. can_match atoms l.begun l.going w) (drop_more list l.letter-index 0 c.letters-test.true)
          ∙ sym (after_letter letter false false atoms l.begun l.going rest
          (omega (arith, c.requires, l.invariant.1)) (omega (arith, c.requires, l.invariant.2)))),
      omega (arith, c.read_letter.auto.begun, l.invariant.1),
      omega (arith, c.read_letter.auto.going, l.invariant.2),
    )

pub returns : goal.returns
returns c =
    let l = c.letters in
    c.reaches_end.ensures
    ∙ at_end false c.args.atoms.now l.begun l.going (omega (arith, c.requires, l.invariant.1)) (omega (arith, c.requires, l.invariant.2))
    ∙ ap (λ w. can_match c.args.atoms.now l.begun l.going w) (sym (drop_all l.letter-index c.args.list.now (omega arith)))
    ∙ sym l.invariant.0
