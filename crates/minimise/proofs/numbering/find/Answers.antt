use Rattle.std.proofs.Common.{◌-◌, arith}
use Rattle.minimise.proofs.Buckets.{first_within, before_lower}
use Rattle.minimise.proofs.numbering.find.Goals as goal

pub bounds-classes-state : goal.bounds-classes-state
bounds-classes-state c =
    let t = c.firsts-test.true in
    let first = c.firsts.invariant.in_bucket (c.firsts.number - 1) (omega arith) in
    let within = first_within c.args.least.now (c.firsts.number - 1) first.0 in
    let w = c.requires.within in
    omega arith

pub offset_bounds-classes-state : goal.offset_bounds-classes-state
offset_bounds-classes-state c =
    let t = c.firsts-test.true in
    let first = c.firsts.invariant.in_bucket (c.firsts.number - 1) (omega arith) in
    let within = first_within c.args.least.now (c.firsts.number - 1) first.0 in
    let w = c.requires.within in
    let inv = c.type_inv.classes in
    omega arith

pub firsts-smaller : goal.firsts-smaller
firsts-smaller c =
    let t = c.firsts-test.true in
    let first = c.firsts.invariant.in_bucket (c.firsts.number - 1) (omega arith) in
    let lower = before_lower c.requires.buckets (c.firsts.number - 1) first.0 in
    omega arith
