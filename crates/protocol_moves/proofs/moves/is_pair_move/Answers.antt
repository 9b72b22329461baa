use Rattle.std.proofs.Common.{◌≡◌, inl, inr, ◌+◌, ◌-◌, ◌∙◌, sym, arith, false, refl, subst}
use Rattle.std.proofs.lemmas.Bool.{cases_lt}
use Rattle.protocol_moves.specs.private.Extents.{is_pair_at}
use Rattle.protocol_moves.proofs.OneMove.{pair_found, pair_none, pair_length}
use Rattle.protocol_moves.proofs.TestedMove.{pair_turn, two_hold}
use Rattle.protocol_moves.proofs.EndMove.{never}
use Rattle.protocol_moves.proofs.moves.is_pair_move.Goals as goal

pub returns-then-old-new : goal.returns-then-old-new
returns-then-old-new c =
    never (λ m. c.if-old-new.true (pair_length c.args.was.0 c.args.was.1 c.args.becomes.0 c.args.becomes.1 c.args.old.now c.args.new.now m))

pub returns-then-left-right : goal.returns-then-left-right
returns-then-left-right c =
    let l = c.neighbours in
    let tested = c.if-left-right.true in
    let e = pair_turn c.args.was.0 c.args.was.1 c.args.becomes.0 c.args.becomes.1 c.args.old.now c.args.new.now l.i
    c.change_extent-changed.result.first c.change_extent-changed.result.last c.if-old-new.false l.auto.i c.neighbours-test.true
    c.change_extent-changed.ensures in (
      λ h. pair_found c.args.was.0 c.args.was.1 c.args.becomes.0 c.args.becomes.1 c.args.old.now c.args.new.now (l.i - 1)
          c.if-old-new.false (omega (arith, c.neighbours-test.true, l.auto.i)) (sym e ∙ two_hold _ _ _ c.is_within-stays.ensures tested),
      λ m. refl,
    )

pub neighbours-preserved : goal.neighbours-preserved
neighbours-preserved c =
    let l = c.neighbours in
    let tested = c.if-left-right.false in
    let e = pair_turn c.args.was.0 c.args.was.1 c.args.becomes.0 c.args.becomes.1 c.args.old.now c.args.new.now l.i
    c.change_extent-changed.result.first c.change_extent-changed.result.last c.if-old-new.false l.auto.i c.neighbours-test.true
    c.change_extent-changed.ensures in
    λ j h. elim (cases_lt (j + 1) l.i) [
      | inl less ↦ l.invariant j less
      | inr more ↦
          let is : j ≡ l.i - 1 = omega (arith, h, more) in
          subst (λ k. is_pair_at c.args.was.0 c.args.was.1 c.args.becomes.0 c.args.becomes.1 c.args.old.now c.args.new.now k ≡ false) (sym is)
          (sym e ∙ two_hold _ _ _ c.is_within-stays.ensures tested)
    ]

pub returns : goal.returns
returns c =
    let l = c.neighbours in
    never (pair_none c.args.was.0 c.args.was.1 c.args.becomes.0 c.args.becomes.1 c.args.old.now c.args.new.now
    (λ j h. l.invariant j (omega (arith, h, c.neighbours-test.false))))
