use Rattle.std.proofs.Common.{◌<◌, ℕ, List, Option, length, take, get_or, subst, arith}
use Rattle.std.proofs.lemmas.List.{take_more, take_all}
use Rattle.reduction.specs.private.SilentMoves.{AddsLettered, AreMovesOf}
use Rattle.reduction.proofs.SilentMoves.{moves_more, moves_turned}
use Rattle.reduction.proofs.silent_edges.moves_of.Goals as goal

pub states-preserved : goal.states-preserved
states-preserved c =
    let states = c.args.states.now in
    let i = c.states.state-index in
    let old = c.states.moves.items in
    let new = c.add_lettered.new.moves.items in
    let lt : i < length states = omega arith in
    rw (take_more states i 0 lt)
    (moves_more c.args.automaton.now (take i states) old new (get_or states i 0) c.states.invariant
    (subst (λ (xs : List (Option ℕ × ℕ)). AddsLettered xs old new) c.edges_from.ensures.edges c.in_ok-add_lettered.ensures))

pub returns : goal.returns
returns c =
    let n = c.args.automaton.now in
    let states = c.args.states.now in
    moves_turned n states c.states.moves.items c.order_edges.new.edges.items
    (subst (λ xs. AreMovesOf n xs c.states.moves.items) (take_all c.states.state-index states (omega arith)) c.states.invariant) c.order_edges.ensures
