use Rattle.std.proofs.Common.{◌<◌, ℕ, List, Option, None, length, take, get_or, sym, subst, arith}
use Rattle.std.proofs.lemmas.List.{take_more}
use Rattle.reduction.specs.private.Renumbering.{AddsPlaced}
use Rattle.reduction.proofs.Parts.{adds_placed_skip, adds_placed_more}
use Rattle.reduction.proofs.renumbering.add_placed.Goals as goal

pub edges-preserved-in_default : goal.edges-preserved-in_default
edges-preserved-in_default c =
    let states = c.args.states.now in
    let edges = c.args.edges.now in
    let i = c.edges.letter-index in
    let lt : i < length edges = omega arith in
    subst (λ (xs : List (Option ℕ × ℕ)). AddsPlaced states c.args.place xs c.args.builder.now c.edges.builder) (sym (take_more edges i (None, 0) lt))
    (adds_placed_skip states c.args.place (take i edges) (get_or edges i (None, 0)) c.args.builder.now c.edges.builder c.edges.invariant
    (c.place_of.ensures.none c.in_default.is))

pub edges-preserved : goal.edges-preserved
edges-preserved c =
    let states = c.args.states.now in
    let edges = c.args.edges.now in
    let i = c.edges.letter-index in
    let lt : i < length edges = omega arith in
    subst (λ (xs : List (Option ℕ × ℕ)). AddsPlaced states c.args.place xs c.args.builder.now c.edge.new.self) (sym (take_more edges i (None, 0) lt))
    (adds_placed_more states c.args.place (take i edges) (get_or edges i (None, 0)) c.args.builder.now c.edges.builder c.edges.invariant
    c.edge.new.self c.in-Some.target c.in-Some.ensures.some c.in_ok-edge.ensures.ok)
