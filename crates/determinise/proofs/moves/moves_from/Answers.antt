use Rattle.std.proofs.Common.{◌++◌, [], ℕ, List, Option, length, take, get_or, sym, ap, ◌<◌, ◌∙◌, arith}
use Rattle.std.proofs.lemmas.List.{flat_map_more, take_all, take_more}
use Rattle.std.specs.List.{filter_map}
use Rattle.word_automata.specs.Path.{edges_of}
use Rattle.determinise.specs.private.Subsets.{lettered_move, moves_from}
use Rattle.determinise.proofs.moves.moves_from.Goals as goal

pub states-preserved : goal.states-preserved
states-preserved c =
    let n = c.args.automaton.now in
    let states = c.args.states.now in
    let i = c.states.state-index in
    let lt : i < length states = omega arith in
    c.in_ok-add_moves.ensures ∙ ap (λ xs. xs ++ filter_map lettered_move c.edges_from.result.now) c.states.invariant
    ∙ ap (λ (es : List (Option ℕ × ℕ)). moves_from n (take i states) ++ filter_map lettered_move es) c.edges_from.ensures.edges
    ∙ flat_map_more (λ p. filter_map lettered_move (edges_of n.states p)) [] (take i states) (get_or states i 0) ∙ sym (ap (moves_from n) (take_more states i 0 lt))

pub returns : goal.returns
returns c = c.states.invariant ∙ ap (moves_from c.args.automaton.now) (take_all c.states.state-index c.args.states.now (omega arith))
