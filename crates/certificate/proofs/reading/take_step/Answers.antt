use Rattle.std.proofs.Common.{◌≡◌, ◌&&◌, true, length, nat_lt, refl, sym, subst, ◌∙◌}
use Rattle.protocol_model.specs.Patterns.{fits}
use Rattle.certificate.proofs.Taking.{takes_step}
use Rattle.certificate.proofs.reading.take_step.Goals as goal

pub returns : goal.returns
returns c = λ t kept.
    takes_step c.args.alphabet.now t c.args.read.now kept c.args.rule c.args.configuration _
    (subst (λ s. (nat_lt c.args.rule (length s.rules) && fits s c.args.configuration) ≡ true) c.system.ensures
    (sym c.is_step.ensures ∙ c.if-not-is_step.false)) refl c.in_ok-push.ensures.items
