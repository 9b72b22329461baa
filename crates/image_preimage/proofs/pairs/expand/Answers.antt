use Rattle.std.proofs.Common.{◌<◌, ℕ, None, Contains, length, get_or, subst, ◌∙◌, arith}
use Rattle.std.proofs.lemmas.List.{take_more, take_all}
use Rattle.std.proofs.lemmas.List.Elements.{Contains-get_or}
use Rattle.transducers.specs.declared.Label.{Label}
use Rattle.transducers.proofs.ForCallers.{target_in_range}
use Rattle.image_preimage.specs.Pairs.{FollowsAll}
use Rattle.image_preimage.proofs.GapLemmas.{in_gap}
use Rattle.image_preimage.proofs.PairLemmas.{FollowsAll-more, Follows-none}
use Rattle.image_preimage.proofs.pairs.expand.Goals as goal

pub follow-requires-clause-in_range : goal.follow-requires-clause-in_range
follow-requires-clause-in_range c =
    let edges = c.edges-edge-items.result.now in
    let none : Label × ℕ = (record { read = None; write = None }, 0) in
    let edge = get_or edges c.edges.edge-index none in
    let lt : c.edges.edge-index < length edges = omega arith in
    target_in_range c.args.t.now c.pair_at-pair.result.left edge c.requires.valid
    (subst (λ es. Contains es edge) c.edges-edge-items.ensures (Contains-get_or edges c.edges.edge-index none lt))

pub edges_from-edges-requires : goal.edges_from-edges-requires
edges_from-edges-requires c = c.requires.reached.in_range c.args.from c.pair_at-pair.result c.pair_at-pair.ensures

pub edges-preserved : goal.edges-preserved
edges-preserved c =
    let edges = c.edges-edge-items.result.now in
    let none : Label × ℕ = (record { read = None; write = None }, 0) in
    let lt : c.edges.edge-index < length edges = omega arith in (
      rw (take_more edges c.edges.edge-index none lt)
          (FollowsAll-more c.args.t.now c.args.a.now c.args.found.now.states.items c.args.builder.now c.args.from c.pair_at-pair.result
          c.edges.invariant.0 c.in_ok-follow.ensures.follows),
      c.in_ok-follow.ensures.gap,
    )

pub edges-preserved-then-has : goal.edges-preserved-then-has
edges-preserved-then-has c =
    let t = c.args.t.now in
    let a = c.args.a.now in
    let edges = c.edges-edge-items.result.now in
    let none : Label × ℕ = (record { read = None; write = None }, 0) in
    let lt : c.edges.edge-index < length edges = omega arith in
    let edge = get_or edges c.edges.edge-index none in
    let found = c.edges.found.states.items in
    let nowhere = in_gap a c.pair_at-pair.result.right c.edges_from-edges.result.now c.edges.near.gap.low c.edges.near.gap.high edge.0.read
    c.edges_from-edges.ensures.edges c.edges.invariant.1 (c.has.ensures c.if-has.true) in (
      rw (take_more edges c.edges.edge-index none lt)
          (FollowsAll-more t a c.args.found.now.states.items c.args.builder.now c.args.from c.pair_at-pair.result c.edges.invariant.0
          (Follows-none t a found c.edges.builder c.args.from c.pair_at-pair.result edge c.edges.invariant.0.reached nowhere)),
      c.edges.invariant.1,
    )

pub returns : goal.returns
returns c = (
  c.pair_at-pair.result,
  c.pair_at-pair.ensures,
  subst (FollowsAll c.args.t.now c.args.a.now c.args.found.now.states.items c.edges.found.states.items c.args.builder.now c.edges.builder
      c.args.from c.pair_at-pair.result)
      (take_all c.edges.edge-index c.edges-edge-items.result.now c.edges-test.false ∙ c.edges-edge-items.ensures) c.edges.invariant.0,
)
