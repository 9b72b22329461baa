use Rattle.std.proofs.Common.{◌∙◌, ap, sym, get_or, if◌then◌else◌}
use Rattle.std.proofs.lemmas.List.Sums.{fold_more}
use Rattle.minimise.specs.Signatures.{mixed, mixed_edge}
use Rattle.future_abstraction.proofs.signature.Signature.digest.Goals as goal

pub edges-preserved : goal.edges-preserved
edges-preserved c =
    let edges = c.as_slice-edges.result.now in
    let edge = get_or edges c.edges.letter-index (0, 0) in
    let start = mixed c.args.self.now.class (if c.args.self.now.accepting then 1 else 0) in
    c.mixed-value-in-edges.ensures ∙ ap (λ v. mixed v edge.1) (c.mixed-with_letter.ensures ∙ ap (λ v. mixed v edge.0) c.edges.invariant)
    ∙ sym (fold_more mixed_edge start edges c.edges.letter-index (0, 0) c.edges-test.true)
