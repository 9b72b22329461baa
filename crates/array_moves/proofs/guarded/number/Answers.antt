use Rattle.std.proofs.Common.{◌≡◌, true, sym, subst, Some, slice_get}
use Rattle.std.proofs.lemmas.Bool.{and_parts}
use mathlib.Core.Bool.{beq}
use lib.Pointwise.{pointwise, pointwise_decides}
use Rattle.array_moves.specs.contracts.guard_table.ControlStatePartialEq.TheImpl.{eq-value}
use Rattle.array_moves.specs.declared.guard_table.ControlState.{ControlState}
use Rattle.array_moves.specs.private.ControlStates.{Numbers}
use Rattle.array_moves.proofs.ControlLemmas.{beq_decides, Numbers-insert_key}
use Rattle.array_moves.proofs.guarded.number.Goals as goal

same : (x y : ControlState) → eq-value.it x y ≡ true → x ≡ y
same x y e =
    let parts = and_parts (beq x.moved y.moved) (pointwise beq x.met y.met) e in
    let moved = (beq_decides x.moved y.moved).0 parts.0 in
    let met = (pointwise_decides {E = beq} beq_decides x.met y.met).0 parts.1 in
    λ i. record { moved = moved i; met = met i }

pub returns : goal.returns
returns c =
    let e = c.in_ok-number.ensures in
    let at = subst (λ l. slice_get l c.in_ok-number.number ≡ Some e.stored.0) e.keys e.stored.1 in
    subst (λ new. Numbers c.args.controls.now.keys new c.args.control c.in_ok-number.number) (sym e.keys)
    (Numbers-insert_key eq-value.it same c.args.controls.now.keys c.args.control e.stored.0 c.in_ok-number.number at e.stored.2)
