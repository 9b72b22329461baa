use Rattle.std.proofs.Common.{◌<◌, ℕ, None, Contains, length, get_or, subst, ◌∙◌, arith}
use Rattle.std.proofs.lemmas.List.{take_more, take_all}
use Rattle.std.proofs.lemmas.List.Elements.{Contains-get_or}
use Rattle.transducers.specs.declared.Label.{Label}
use Rattle.image_preimage.specs.private.Triples.{Follows}
use Rattle.image_preimage.proofs.GapLemmas.{in_gap}
use Rattle.image_preimage.proofs.TripleLemmas.{Follows-more, Follows-nowhere}
use Rattle.image_preimage.proofs.triples.Triples.expand.Goals as goal

pub follow-requires-clause-is_edge : goal.follow-requires-clause-is_edge
follow-requires-clause-is_edge c =
    let edges = c.edges-edge-items.result.now in
    let none : Label × ℕ = (record { read = None; write = None }, 0) in
    let edge = get_or edges c.edges.edge-index none in
    let lt : c.edges.edge-index < length edges = omega arith in
    subst (λ es. Contains es edge) c.edges-edge-items.ensures (Contains-get_or edges c.edges.edge-index none lt)

pub follow-requires-clause-there : goal.follow-requires-clause-there
follow-requires-clause-there c = (c.args.place, c.edges.invariant.0.grows c.args.place c.args.triple c.requires.there)

pub edges-preserved : goal.edges-preserved
edges-preserved c =
    let self = c.args.self.now in
    let edges = c.edges-edge-items.result.now in
    let none : Label × ℕ = (record { read = None; write = None }, 0) in
    let lt : c.edges.edge-index < length edges = omega arith in (
      rw (take_more edges c.edges.edge-index none lt)
          (Follows-more self.t.now self.a.now self.b.now c.edges.invariant.0 c.in_ok-follow.ensures.follows),
      c.in_ok-follow.ensures.read,
      c.in_ok-follow.ensures.written,
    )

pub edges-preserved-then-has : goal.edges-preserved-then-has
edges-preserved-then-has c =
    let self = c.args.self.now in
    let edges = c.edges-edge-items.result.now in
    let none : Label × ℕ = (record { read = None; write = None }, 0) in
    let lt : c.edges.edge-index < length edges = omega arith in
    let edge = get_or edges c.edges.edge-index none in
    let found = c.edges.found.states.items in
    let here = c.edges.invariant.1 in
    let nowhere = in_gap self.a.now c.args.triple.middle c.edges_at-read.result.now c.edges.near.read.low c.edges.near.read.high edge.0.read
    here.edges_are here.gap (c.has.ensures c.if-has.true) in (
      rw (take_more edges c.edges.edge-index none lt)
          (Follows-more self.t.now self.a.now self.b.now c.edges.invariant.0 (Follows-nowhere self.t.now self.a.now self.b.now found c.args.triple edge c.edges.invariant.0.reached nowhere)),
      c.edges.invariant.1,
      c.edges.invariant.2,
    )

pub returns : goal.returns
returns c =
    let self = c.args.self.now in
    subst (Follows self.t.now self.a.now self.b.now c.args.found.now.states.items c.edges.found.states.items c.args.triple)
    (take_all c.edges.edge-index c.edges-edge-items.result.now c.edges-test.false ∙ c.edges-edge-items.ensures) c.edges.invariant.0
