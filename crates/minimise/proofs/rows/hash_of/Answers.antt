use Rattle.std.proofs.Common.{◌≡◌, get_or, ap, subst, ◌∙◌, if◌then◌else◌}
use Rattle.minimise.specs.private.Rounds.{mixed_in, edge_number}
use Rattle.minimise.proofs.HashLemmas.{hash_more, hash_same}
use Rattle.minimise.proofs.rows.hash_of.Goals as goal
use Rattle.minimise.proofs.rows.hash_of.Goals.{then-class-ne0, else-class-ne0}

pub edges-preserved : goal.edges-preserved
edges-preserved c =
    let classes = c.args.classes.now in
    let edges = c.args.edges.now in
    let i = c.edges.letter-index in
    let start = if c.args.accepting then 1 else 0 in
    elim c.if-class-ne0.branch [
      | then-class-ne0 w ↦
          w.value-is ∙ w.mixed_in-value.ensures
          ∙ ap (mixed_in c.edges.value) (w.edge_number.ensures ∙ ap (λ k. edge_number ((get_or edges i (0, 0)).0, k)) c.class_of-class.ensures)
          ∙ hash_more start classes edges i c.edges-test.true c.edges.value c.edges.invariant
          (subst (λ k. k ≡ 0 → ⊥) c.class_of-class.ensures w.if-class-ne0.true)
      | else-class-ne0 w ↦
          w.value-is
          ∙ hash_same start classes edges i c.edges-test.true c.edges.value c.edges.invariant
          (subst (λ k. k ≡ 0) c.class_of-class.ensures w.if-class-ne0.false)
    ]
