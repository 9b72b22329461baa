use Rattle.std.proofs.Common.{take}
use Rattle.image_preimage.specs.Gaps.{IsGap}
use Rattle.image_preimage.specs.Pairs.{FollowsAll}
use Rattle.image_preimage.proofs.pairs.expand.Given as goal

abbrev pub invariant-edges : goal.invariant-edges
invariant-edges l = FollowsAll l.t l.a l.initial.found.states.items l.found.states.items l.initial.builder l.builder l.from l.pair (take l.edge-index l.edge-items)
    × IsGap l.edges l.near.gap.low l.near.gap.high
