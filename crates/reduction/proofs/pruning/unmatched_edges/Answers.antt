use Rattle.std.proofs.Common.{List, Option, ℕ, subst}
use Rattle.reduction.specs.private.Copies.{KeepsEdges}
use Rattle.reduction.specs.private.Pruning.{DropsMatched}
use Rattle.reduction.proofs.Simulations.{twice_dropped_keep}
use Rattle.reduction.proofs.pruning.unmatched_edges.Goals as goal

pub returns : goal.returns
returns c =
    let n = c.args.automaton.now in
    let pairs = c.args.pairs.now in
    let new = c.reverse-2.new.self.items in
    let second = c.in_ok-edges.edges.items in
    subst (λ (xs : List (Option ℕ × ℕ)). KeepsEdges n xs new) c.edges_from.ensures.edges
    (twice_dropped_keep n pairs c.requires.simulation c.edges_from.result.now c.in_ok-kept.kept.items c.reverse.new.self.items second new c.in_ok-kept.ensures
    c.reverse.ensures.permutation (subst (λ (xs : List (Option ℕ × ℕ)). DropsMatched pairs xs second) c.deref.ensures.value c.in_ok-edges.ensures)
    c.reverse-2.ensures.permutation)
