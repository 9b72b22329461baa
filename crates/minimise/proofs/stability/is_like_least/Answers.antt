use Rattle.std.proofs.Common.{◌≡◌, ◌-◌, slice_index, sym, subst, ◌∙◌, arith}
use Rattle.std.specs.Cmp.Lexicographic.{pointwise_decides}
use Rattle.word_automata.specs.Path.{is_accepting}
use Rattle.minimise.specs.private.Rounds.{outgoing}
use Rattle.minimise.specs.SignatureLaws.{beq-decides, same_edge-decides}
use Rattle.minimise.proofs.stability.is_like_least.Goals as goal

pub returns-then-accepting : goal.returns-then-accepting
returns-then-accepting c equal =
    let m = c.args.automaton.now in
    let classes = c.args.classes.now in
    let q = c.args.state in
    let flags = c.accepting-2.ensures in
    let flag : is_accepting m.states q ≡ is_accepting m.states (slice_index classes q - 1) =
    sym c.accepting-2.ensures ∙ (beq-decides c.accepting-2.result c.accepting-3.result).0 c.if-accepting.true ∙ c.accepting-3.ensures in
    let edges = sym (c.as_slice.ensures.value ∙ c.in_ok-put_live_edges-2.ensures)
    ∙ (pointwise_decides same_edge-decides c.as_slice.result.now c.as_slice-then-accepting.result.now).0 (sym c.eq.ensures ∙ equal)
    ∙ c.as_slice-then-accepting.ensures.value ∙ c.in_ok-put_live_edges-3.ensures in
    record {
      dead = λ z. absurd (c.if-class-eq0.false z);
      live = λ r h.
          let e : slice_index classes q - 1 ≡ r = omega arith in
          subst (λ x. outgoing m classes q ≡ outgoing m classes x) e (λ i. record { class = 0; accepting = flag i; edges = edges i });
    }
