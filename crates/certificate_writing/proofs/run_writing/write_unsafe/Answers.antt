use Rattle.std.proofs.Common.{sym, subst}
use Rattle.protocol_model.specs.System.{IsValid}
use Rattle.certificate.specs.RunText.{MeansRun}
use Rattle.certificate.proofs.ForCallers.{run_is_read}
use Rattle.certificate_writing.proofs.run_writing.write_unsafe.Goals as goal

pub returns-clause-meaning : goal.returns-clause-meaning
returns-clause-meaning c =
    subst (λ text. MeansRun c.args.system.now text c.args.run.now) (sym c.in_ok-text.ensures)
    (run_is_read c.args.system.now (subst IsValid c.system.view_is c.system.invariant) c.args.run.now c.requires)
