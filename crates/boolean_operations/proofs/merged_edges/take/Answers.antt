use Rattle.std.proofs.Common.{ℕ, get_or, sym, ap, ◌∙◌, arith}
use Rattle.std.proofs.lemmas.Option.{slice_get-get_or, slice_get_within, same_Some}
use Rattle.boolean_operations.proofs.EdgeTargets.{taken_edge, taken_nothing}
use Rattle.boolean_operations.proofs.merged_edges.take.Goals as goal
use Rattle.boolean_operations.proofs.merged_edges.take.Goals.{else-at-edges-via-then-at-edges+else-edges-at, else-at-edges-via-else-at-edges}

pub returns-then-edges-at : goal.returns-then-edges-at
returns-then-edges-at c =
    let edges = c.args.edges.now in
    let at = c.args.at in
    taken_edge edges c.requires.sorted at c.args.letter (get_or edges at (0, 0)) c.requires.passed (slice_get-get_or edges at (0, 0) (omega (arith, c.if-at-edges.true))) c.if-edges-at.true

pub returns : goal.returns
returns c =
    let edges = c.args.edges.now in
    let at = c.args.at in
    taken_nothing edges c.requires.sorted at c.args.letter c.requires.passed (λ edge there same. elim c.else-at-edges.branch [
      | else-at-edges-via-then-at-edges+else-edges-at w ↦
          let is = same_Some (get_or edges at (0, 0)) edge (sym (slice_get-get_or edges at (0, 0) (omega (arith, w.if-at-edges.true))) ∙ there) in
          w.if-edges-at.false (ap (λ (e : ℕ × ℕ). e.0) is ∙ same)
      | else-at-edges-via-else-at-edges w ↦ omega (arith, slice_get_within edges at edge there, w.if-at-edges.false)
    ])
