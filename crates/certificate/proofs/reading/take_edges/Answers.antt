use Rattle.std.proofs.Common.{◌≡◌, true, IfOk, length, nat_lt, sym, subst, ◌∙◌, arith}
use Rattle.std.specs.List.{list_all}
use Rattle.lines.specs.Reading.{HasEffect}
use Rattle.certificate.specs.private.Kept.{IsKept}
use Rattle.certificate.proofs.Taking.{edges_in_range}
use Rattle.certificate.proofs.reading.take_edges.Goals as goal

pub returns : goal.returns
returns c = λ t kept.
    subst (λ effect. IfOk c.add_edges.result (HasEffect (IsKept c.args.alphabet.now) effect t c.add_edges.new.read))
    (sym (edges_in_range c.args.alphabet.now t c.args.read.now kept c.args.from c.args.to c.args.indices.now
    (omega (arith, c.if-from-states.false, c.states-states.ensures)) (omega arith)
    (subst (λ letters. list_all (λ i. nat_lt i (length letters)) c.args.indices.now ≡ true) c.as_slice-bound.ensures.value
    (sym c.are_below.ensures ∙ c.if-not-are_below.false)))) (c.add_edges.ensures t kept)
