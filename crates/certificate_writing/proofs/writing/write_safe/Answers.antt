use Rattle.std.proofs.Common.{sym, subst}
use Rattle.protocol_model.specs.System.{IsValid}
use Rattle.certificate.specs.SafeText.{MeansAutomaton}
use Rattle.certificate_writing.proofs.WrittenLemmas.{written_means}
use Rattle.certificate_writing.proofs.writing.write_safe.Goals as goal

pub returns-clause-meaning : goal.returns-clause-meaning
returns-clause-meaning c =
    subst (λ text. MeansAutomaton c.args.system.now text c.args.proof.now) (sym c.in_ok-text.ensures)
    (written_means c.args.proof.now c.states-states.ensures.valid c.args.system.now (subst IsValid c.system.view_is c.system.invariant) c.requires.letters
    c.requires.limit)
