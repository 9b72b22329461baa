use Rattle.std.proofs.Common.{◌≡◌, ◌+◌, ◌-◌, ◌∙◌, ℕ, Bool, false, inl, inr, sym, subst, arith, length}
use Rattle.std.proofs.lemmas.Bool.{cases_lt}
use Rattle.protocol_moves.specs.private.Gathering.{can_change_two}
use Rattle.protocol_moves.proofs.EnabledMoves.{some_at, none_at, neighbours_are}
use Rattle.protocol_moves.proofs.enabled.has_neighbours.Goals as goal

pub returns-then-left-right : goal.returns-then-left-right
returns-then-left-right c =
    let l = c.neighbours in
    let list = c.args.list.now in
    let test : ℕ → Bool = λ k. can_change_two c.args.a c.args.b list k (k + 1) in
    sym (some_at test (length list - 1) (l.i - 1) (omega (arith, c.neighbours-test.true, l.auto.i))
    (sym (neighbours_are c.args.a c.args.b list l.i l.auto.i) ∙ c.if-left-right.true))

pub neighbours-preserved : goal.neighbours-preserved
neighbours-preserved c =
    let l = c.neighbours in
    let list = c.args.list.now in
    λ j h. elim (cases_lt (j + 1) l.i) [
      | inl less ↦ l.invariant j less
      | inr more ↦
          let is : j ≡ l.i - 1 = omega (arith, h, more) in
          subst (λ k. can_change_two c.args.a c.args.b list k (k + 1) ≡ false) (sym is)
          (sym (neighbours_are c.args.a c.args.b list l.i l.auto.i) ∙ c.if-left-right.false)
    ]

pub returns : goal.returns
returns c =
    let list = c.args.list.now in
    sym (none_at (λ k. can_change_two c.args.a c.args.b list k (k + 1)) (length list - 1)
    (λ j h. c.neighbours.invariant j (omega (arith, h, c.neighbours-test.false))))
