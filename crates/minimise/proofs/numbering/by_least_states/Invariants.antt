use Rattle.std.proofs.Common.{◌≡◌, length}
use Rattle.minimise.specs.private.Numbering.{AreNumbered, AreInBuckets}
use Rattle.minimise.proofs.numbering.by_least_states.Given as goal

abbrev pub invariant-states : goal.invariant-states
invariant-states l = record {
  count : length l.least.items ≡ l.state;
  numbered : AreNumbered l.classes l.least.items;
  buckets : AreInBuckets (length l.heads.items) l.classes l.heads.items l.links.items l.least.items;
}
