use Rattle.std.proofs.Common.{Err, ap}
use Rattle.certificate.proofs.Taking.{takes_edge, second_edge}
use Rattle.certificate.proofs.reading.add_edge.Goals as goal

pub returns-in-Ok-clause-kept : goal.returns-in-Ok-clause-kept
returns-in-Ok-clause-kept c = λ t kept.
    takes_edge c.args.alphabet.now t c.args.read.now kept c.args.from c.args.letter c.args.to _ c.in-Ok.ensures.ok c.in-Ok.ensures.added.0 c.in-Ok.ensures.added.1

pub returns-in-Err-TwoEdges-clause-kept : goal.returns-in-Err-TwoEdges-clause-kept
returns-in-Err-TwoEdges-clause-kept c = λ t kept.
    second_edge c.args.alphabet.now t c.args.read.now kept c.args.from c.args.letter c.args.to
    (c.in-Err-TwoEdges.ensures.two_edges.0 (ap Err c.in-Err-TwoEdges.field-0-is))
