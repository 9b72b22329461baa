use Rattle.std.proofs.Common.{[], subst, arith}
use Rattle.certificate.specs.private.Kept.{HasLines}
use Rattle.certificate.proofs.Taking.{takes_states}
use Rattle.certificate.proofs.reading.take_states.Goals as goal

pub returns : goal.returns
returns c = λ t kept.
    takes_states c.args.alphabet.now t c.args.read.now kept c.args.count _ _ (omega arith)
    (subst (λ size. HasLines size c.args.count [] c.in_ok-read.field-0) c.size-size.ensures.count c.in_ok-read.ensures) c.after_states-read.ensures
