use Rattle.std.proofs.Common.{sym, ◌∙◌}
use Rattle.predicate_abstraction.proofs.Adding.{columns_more, columns_kept}
use Rattle.predicate_abstraction.proofs.shared_words.add_accepting.Goals as goal
use Rattle.predicate_abstraction.proofs.shared_words.add_accepting.Goals.{then-accepting+in_ok-insert, else-accepting}

pub states-preserved : goal.states-preserved
states-preserved c =
    elim c.if-accepting.branch [
      | then-accepting+in_ok-insert w ↦
          rw w.shared-is
          (columns_more c.args.b.now c.args.row c.states.column c.args.shared.now c.states.shared _ (sym c.accepting.ensures ∙ w.if-accepting.true) c.states.invariant w.in_ok-insert.ensures)
      | else-accepting w ↦
          rw w.shared-is
          (columns_kept c.args.b.now c.args.row c.states.column c.args.shared.now _ (sym c.accepting.ensures ∙ w.if-accepting.false) c.states.invariant)
    ]
