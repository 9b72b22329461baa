use Rattle.reduction.proofs.ForCallers.{states_keep_twice}
use Rattle.bit_subsets.specs.Subsets.{members}
use Rattle.bit_subsets.proofs.Members.{removed_keep}
use Rattle.bit_subsets.proofs.above.StatesAbove.without_low.Goals as goal

pub states-preserved : goal.states-preserved
states-preserved c n included =
    let pairs = c.args.self.now.pairs.items in
    let old = c.states.kept in
    let new = c.remove.new.self in
    let above = c.is_below_one.ensures c.if-not-is_below_one.false in
    states_keep_twice n (members c.args.set) (members old) (members new) (c.states.invariant n included)
    (removed_keep n pairs included old new _ above.0 (c.args.self.now.different _ above.0 above.2) above.2 above.1 c.remove.ensures.kept c.remove.ensures.only)
