use Rattle.std.proofs.Common.{sym, ◌∙◌}
use Rattle.std.proofs.lemmas.Bool.Decides.{Decides-eqb}
use Rattle.std.specs.Cmp.Lexicographic.{pointwise_decides}
use Rattle.minimise.specs.SignatureLaws.{beq-decides, same_edge-decides}
use Rattle.future_abstraction.proofs.Numbering.{same_parts}
use Rattle.future_abstraction.proofs.signature.Signature.is_same.Goals as goal
use Rattle.future_abstraction.proofs.signature.Signature.is_same.Goals.{then-self-other, else-self-other}

pub returns-then-self-other-2 : goal.returns-then-self-other-2
returns-then-self-other-2 c equal =
    let edges = sym c.as_slice.ensures.value
    ∙ (pointwise_decides same_edge-decides c.as_slice.result.now c.as_slice-then-self-other-2.result.now).0 (sym c.eq.ensures ∙ equal)
    ∙ c.as_slice-then-self-other-2.ensures.value in
    elim c.if-self-other.branch [
      | then-self-other w ↦
          let flag = (beq-decides c.self.inside.accepting c.other.inside.accepting).0 (sym w.value-is ∙ c.if-self-other-2.true) in
          sym c.self.view_is ∙ same_parts _ _ w.if-self-other.true flag edges ∙ c.other.view_is
      | else-self-other w ↦ absurd (w.if-self-other.false ((Decides-eqb c.self.inside.class c.other.inside.class).0 (sym w.value-is ∙ c.if-self-other-2.true)))
    ]
