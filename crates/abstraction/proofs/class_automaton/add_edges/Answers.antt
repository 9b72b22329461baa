use Rattle.std.proofs.Common.{ℕ, List, length, get_or, refl, ap, arith}
use Rattle.abstraction.proofs.ClassMoves.{moves_more, moves_next}
use Rattle.abstraction.proofs.class_automaton.add_edges.Goals as goal

pub edges-preserved : goal.edges-preserved
edges-preserved c =
    let read = c.edges_from-letter-items.ensures.edges in
    moves_more c.args.a.now c.args.firsts.now c.edges.seen.states.items c.add_edge.new.seen.states.items c.edges.builder c.add_edge.new.builder c.args.state c.edges.letter-index
    (get_or c.edges_from-letter-items.result.now c.edges.letter-index (0, 0)) _
    (let e = ap length read in omega arith) (ap (λ (es : List (ℕ × ℕ)). get_or es c.edges.letter-index (0, 0)) read) refl c.in_ok-add_edge.ensures c.edges.invariant

pub returns : goal.returns
returns c =
    let read = ap length c.edges_from-letter-items.ensures.edges in
    moves_next c.args.a.now c.args.firsts.now c.edges.seen.states.items c.edges.builder c.args.state c.edges.letter-index (omega arith) c.edges.invariant
