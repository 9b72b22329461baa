use Rattle.std.proofs.Common.{None, refl, arith}
use Rattle.word_automata.proofs.ForCallers.{adds_some_other, adds_some_same, adds_some_all}
use Rattle.determinise.proofs.Closures.{none_from_test, some_from_test}
use Rattle.determinise.proofs.subset.add_silent_targets.Goals as goal
use Rattle.determinise.proofs.subset.add_silent_targets.Goals.{then-is_none+in_ok-add, else-is_none}

pub edges-preserved : goal.edges-preserved
edges-preserved c =
    elim c.if-is_none.branch [
      | then-is_none+in_ok-add w ↦
          rw w.set-is
          (adds_some_same c.args.edges.now None c.args.set.now.keys c.edges.set.keys _ c.edges.letter-index _ _ (omega arith) refl
          (none_from_test _ c.is_none.result c.is_none.ensures w.if-is_none.true) w.in_ok-add.ensures c.edges.invariant)
      | else-is_none w ↦
          rw w.set-is
          (adds_some_other c.args.edges.now None c.args.set.now.keys c.edges.set.keys c.edges.letter-index _ _ refl
          (some_from_test _ c.is_none.result c.is_none.ensures w.if-is_none.false) c.edges.invariant)
    ]

pub returns : goal.returns
returns c = adds_some_all c.args.edges.now None c.args.set.now.keys c.edges.set.keys c.edges.letter-index (omega arith) c.edges.invariant
