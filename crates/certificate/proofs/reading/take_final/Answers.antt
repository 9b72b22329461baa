use Rattle.certificate.proofs.Taking.{takes_final}
use Rattle.certificate.proofs.reading.take_final.Goals as goal

pub returns-in-Ok : goal.returns-in-Ok
returns-in-Ok c = λ s t kept.
    takes_final s t c.args.read.now kept c.args.state _ c.in-Ok.ensures.in_range c.in-Ok.ensures.ok
