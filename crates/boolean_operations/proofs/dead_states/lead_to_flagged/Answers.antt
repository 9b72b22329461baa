use Rattle.std.proofs.Common.{length, map, refl, sym, ◌∙◌, arith}
use Rattle.std.proofs.lemmas.Option.{slice_get_read}
use Rattle.boolean_operations.proofs.DeadStates.{flagged_more, flagged_targets}
use Rattle.boolean_operations.proofs.ReadEdges.{read_at, read_all}
use Rattle.boolean_operations.proofs.dead_states.lead_to_flagged.Goals as goal

pub edges-preserved : goal.edges-preserved
edges-preserved g c =
    let edges = c.args.edges.now in
    let moves = map g.A.FiniteAutomaton.move_of edges in
    flagged_more c.args.flags.now moves c.edges.edge-index c.read-to.result c.edges.invariant
    (read_at g.A.FiniteAutomaton.move_of edges moves c.edges.edge-index c.edge-item.result c.read-to.result refl
    (slice_get_read edges (length edges) c.edges.edge-index c.edge-item.result refl (omega (arith, c.edges-test.true)) c.edge-item.is) c.read-to.ensures)
    (sym c.has_flag.ensures ∙ c.if-not-has_flag.false)

pub returns : goal.returns
returns g c t =
    let edges = c.args.edges.now in
    let moves = map g.A.FiniteAutomaton.move_of edges in
    flagged_targets c.args.flags.now moves c.edges.edge-index (read_all g.A.FiniteAutomaton.move_of edges moves c.edges.edge-index refl (omega (arith, c.edges-test.false))) c.edges.invariant
