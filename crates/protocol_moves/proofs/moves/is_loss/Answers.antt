use Rattle.std.proofs.lemmas.List.{nil_from_length}
use Rattle.protocol_model.specs.Moves.{IsLoss}
use Rattle.protocol_moves.proofs.Losses.{loss_goes_on, loss_stops, loss_ends}
use Rattle.protocol_moves.proofs.moves.is_loss.Goals as goal

pub same-preserved : goal.same-preserved
same-preserved c =
    let l = c.same in
    loss_goes_on c.args.letters.now c.in-Some.first.now l.left.now l.kept.now c.in-Some.rest.now c.in-Some-below.others.now
    (IsLoss c.args.letters.now c.args.longer.now c.args.shorter.now) c.in-Some.ensures.cases.0 c.in-Some-below.ensures l.invariant

pub returns-in_default-below : goal.returns-in_default-below
returns-in_default-below c =
    let l = c.same in
    rw c.is_in.ensures
    (loss_stops c.args.letters.now c.in-Some.first.now l.left.now l.kept.now c.in-Some.rest.now c.is_equal.result
    (IsLoss c.args.letters.now c.args.longer.now c.args.shorter.now) c.in-Some.ensures.cases.0 c.in_default-below.ensures c.is_equal.ensures l.invariant)

pub returns : goal.returns
returns c =
    let l = c.same in
    loss_ends c.args.letters.now l.left.now l.kept.now (IsLoss c.args.letters.now c.args.longer.now c.args.shorter.now)
    (nil_from_length _ c.in_default.ensures.cases) l.invariant
