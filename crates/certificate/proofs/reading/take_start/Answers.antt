use Rattle.std.proofs.Common.{◌≡◌, true, sym, subst, ◌∙◌}
use Rattle.protocol_model.specs.Patterns.{fits}
use Rattle.certificate.proofs.Taking.{takes_start}
use Rattle.certificate.proofs.reading.take_start.Goals as goal

pub returns : goal.returns
returns c = λ t kept.
    takes_start c.args.alphabet.now t c.args.read.now kept c.args.configuration
    (subst (λ s. fits s c.args.configuration ≡ true) c.system.ensures (sym c.fits.ensures ∙ c.if-not-fits.false))
