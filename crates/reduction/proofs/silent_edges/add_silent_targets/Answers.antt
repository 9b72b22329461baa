use Rattle.std.proofs.Common.{None, refl, sym, ◌∙◌, arith}
use Rattle.word_automata.proofs.ForCallers.{adds_some_other, adds_some_same, adds_some_all}
use Rattle.reduction.proofs.SilentMoves.{no_letter, some_letter}
use Rattle.reduction.proofs.silent_edges.add_silent_targets.Goals as goal
use Rattle.reduction.proofs.silent_edges.add_silent_targets.Goals.{then-eq+in_ok-add, else-eq}

pub edges-preserved : goal.edges-preserved
edges-preserved c =
    elim c.if-eq.branch [
      | then-eq+in_ok-add w ↦
          rw w.reached-is
          (adds_some_same c.args.edges.now None c.args.reached.now.items c.edges.reached.items _ c.edges.letter-index _ _ (omega arith) refl
          (no_letter _ (sym c.eq.ensures ∙ w.if-eq.true)) w.in_ok-add.ensures c.edges.invariant)
      | else-eq w ↦
          rw w.reached-is
          (adds_some_other c.args.edges.now None c.args.reached.now.items c.edges.reached.items c.edges.letter-index _ _ refl
          (some_letter _ (sym c.eq.ensures ∙ w.if-eq.false)) c.edges.invariant)
    ]

pub returns : goal.returns
returns c = adds_some_all c.args.edges.now None c.args.reached.now.items c.edges.reached.items c.edges.letter-index (omega arith) c.edges.invariant
