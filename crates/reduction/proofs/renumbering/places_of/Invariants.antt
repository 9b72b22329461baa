use Rattle.std.proofs.Common.{◌≡◌, length, take}
use Rattle.reduction.specs.private.Renumbering.{HavePlaces}
use Rattle.reduction.proofs.renumbering.places_of.Given as goal

abbrev pub invariant-states : goal.invariant-states
invariant-states l = record {
  size : length l.places.items ≡ l.count;
  placed : HavePlaces (take l.place l.states) l.states l.places.items;
}
