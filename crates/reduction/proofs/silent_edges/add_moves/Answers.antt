use Rattle.std.proofs.Common.{ℕ, List, Option, All, sym, subst}
use Rattle.word_automata.specs.Nondeterministic.{IsMoveInRange}
use Rattle.reduction.specs.private.Copies.{AddsEdges}
use Rattle.reduction.proofs.SilentMoves.{freed_more, moves_in_range}
use Rattle.reduction.proofs.silent_edges.add_moves.Goals as goal

pub add_edges-requires : goal.add_edges-requires
add_edges-requires c =
    let builder = c.args.builder.now in
    let state = c.args.state in
    subst (λ (xs : List (Option ℕ × ℕ)). All (λ (edge : Option ℕ × ℕ). IsMoveInRange builder state edge.0 edge.1) xs) (sym c.deref.ensures.value)
    (moves_in_range c.args.automaton.now c.requires.in_range builder c.requires.before.same_letters c.requires.before.same_size state c.requires.state c.args.reached.now
    c.requires.states c.in_ok-moves.moves.items c.in_ok-moves.ensures)

pub returns : goal.returns
returns c =
    let builder = c.args.builder.now in
    let new = c.add_edges.new.builder in
    freed_more c.args.automaton.now builder new c.args.state c.args.reached.now c.in_ok-moves.moves.items c.requires.before c.requires.closure c.in_ok-moves.ensures
    (subst (λ (xs : List (Option ℕ × ℕ)). AddsEdges c.args.state xs builder new) c.deref.ensures.value c.in_ok-add_edges.ensures)
