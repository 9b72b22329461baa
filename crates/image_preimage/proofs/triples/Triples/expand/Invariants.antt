use Rattle.std.proofs.Common.{take}
use Rattle.image_preimage.specs.private.Triples.{Follows, IsGapAt}
use Rattle.image_preimage.proofs.triples.Triples.expand.Given as goal

abbrev pub invariant-edges : goal.invariant-edges
invariant-edges l = Follows l.self.t.now l.self.a.now l.self.b.now l.initial.found.states.items l.found.states.items l.triple
    (take l.edge-index l.edge-items)
    × IsGapAt l.self.a.now l.triple.middle l.read l.near.read.low l.near.read.high
    × IsGapAt l.self.b.now l.triple.right l.written l.near.written.low l.near.written.high
