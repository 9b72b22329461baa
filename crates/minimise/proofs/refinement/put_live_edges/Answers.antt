use Rattle.std.proofs.Common.{ap, ◌∙◌, arith}
use Rattle.std.proofs.lemmas.List.{take_all}
use Rattle.std.specs.List.{filter_map}
use Rattle.minimise.specs.Refinement.{live_edge}
use Rattle.minimise.proofs.Splitting.{live_edge_more, dead_edge_more}
use Rattle.minimise.proofs.refinement.put_live_edges.Goals as goal
use Rattle.minimise.proofs.refinement.put_live_edges.Goals.{then-classes-to-ne0+in_ok-push, else-classes-to-ne0}

pub edges-preserved : goal.edges-preserved
edges-preserved c =
    elim c.if-classes-to-ne0.branch [
      | then-classes-to-ne0+in_ok-push w ↦
          ap (λ live. live.items) w.live-is ∙ w.in_ok-push.ensures.items
          ∙ live_edge_more c.args.classes.now c.edges_from-edges.result.now c.edges.letter-index c.edges-test.true c.edges.live.items c.edges.invariant w.if-classes-to-ne0.true
      | else-classes-to-ne0 w ↦
          ap (λ live. live.items) w.live-is
          ∙ dead_edge_more c.args.classes.now c.edges_from-edges.result.now c.edges.letter-index c.edges-test.true c.edges.live.items c.edges.invariant w.if-classes-to-ne0.false
    ]

pub returns : goal.returns
returns c =
    c.edges.invariant
    ∙ ap (filter_map (live_edge c.args.classes.now)) (take_all c.edges.letter-index c.edges_from-edges.result.now (omega (arith, c.edges-test.false)) ∙ c.edges_from-edges.ensures.edges)
