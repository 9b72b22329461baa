use Rattle.std.proofs.Common.{◌≡◌, IsTrue, ◌+◌, ◌-◌, ◌^◌, ◌*◌, length}
use Rattle.image_preimage.specs.private.Triples.{Walks}
use Rattle.image_preimage.proofs.inclusion.walk_on.Given as goal

abbrev pub invariant-triples : goal.invariant-triples
invariant-triples l =
    Walks l.triples.t.now l.triples.a.now l.triples.b.now l.triples.copying.now l.found.states.items l.pending.items
    × (IsTrue l.are_same → l.triples.a.now ≡ l.triples.b.now)

abbrev pub decreases-triples : goal.decreases-triples
decreases-triples l = 2 * (2 ^ 64 - length l.found.states.items) + length l.pending.items
