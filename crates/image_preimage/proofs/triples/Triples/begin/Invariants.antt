use Rattle.std.proofs.Common.{ℕ, Contains, take}
use Rattle.image_preimage.specs.private.Triples.{AreReached, IsFound, triple_of}
use Rattle.image_preimage.proofs.triples.Triples.begin.Given as goal

abbrev pub invariant-starts : goal.invariant-starts
invariant-starts l = AreReached l.self.t.now l.self.a.now l.self.b.now l.found.states.items
    × ((p : ℕ) → Contains (take l.start-index l.start-items) p → IsFound l.found.states.items (triple_of p 0 0))
