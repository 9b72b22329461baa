use Rattle.std.proofs.Common.{[], length, sym, refl, ◌∙◌, arith}
use Rattle.predicate_abstraction.proofs.Adding.{rows_more, rows_kept}
use Rattle.predicate_abstraction.proofs.Sharing.{shares_accepting}
use Rattle.predicate_abstraction.proofs.shared_words.accepting_pairs.Goals as goal
use Rattle.predicate_abstraction.proofs.shared_words.accepting_pairs.Goals.{then-accepting+in_ok-add_accepting, else-accepting}

pub states-preserved : goal.states-preserved
states-preserved c =
    let a = c.args.a.now in
    let b = c.args.b.now in
    elim c.if-accepting.branch [
      | then-accepting+in_ok-add_accepting w ↦
          rw w.shared-is
          (rows_more a b c.states.state (record { rows = length a.states; columns = length b.states; pairs = [] }) c.states.shared _
          (sym c.accepting.ensures ∙ w.if-accepting.true) c.states.invariant w.in_ok-add_accepting.ensures)
      | else-accepting w ↦
          rw w.shared-is
          (rows_kept a b c.states.state (record { rows = length a.states; columns = length b.states; pairs = [] }) _
          (sym c.accepting.ensures ∙ w.if-accepting.false) c.states.invariant)
    ]

pub returns : goal.returns
returns c =
    let a = c.args.a.now in
    let b = c.args.b.now in
    let count = c.states-state-end.ensures.count in
    shares_accepting a b (record { rows = length a.states; columns = length b.states; pairs = [] }) c.states.shared refl refl refl c.states.state (omega arith) c.states.invariant
