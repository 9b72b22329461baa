use Rattle.std.proofs.Common.{◌-◌, ◌^◌}
use Rattle.predicate_abstraction.specs.private.Splitting.{IsSplitByRows}
use Rattle.predicate_abstraction.proofs.splitting.split_by_pairs.Given as goal

abbrev pub invariant-rows : goal.invariant-rows
invariant-rows l = IsSplitByRows l.set 0 l.row l.classes l.split.items

abbrev pub decreases-rows : goal.decreases-rows
decreases-rows l = 2 ^ 64 - l.row
