use Rattle.std.proofs.Common.{ap}
use Rattle.certificate.specs.Stages.{then_at}
use Rattle.certificate.proofs.Taking.{takes_title}
use Rattle.certificate.proofs.reading.take_title.Goals as goal

pub returns-in-Ok : goal.returns-in-Ok
returns-in-Ok c = λ s t kept.
    takes_title s t c.args.read.now kept c.args.version c.args.kind c.in-Ok.place c.in-Ok.ensures.0 c.in-Ok.ensures.1

pub returns-in-Err : goal.returns-in-Err
returns-in-Err c = λ s t kept. ap (then_at t) c.in-Err.ensures
