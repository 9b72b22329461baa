use Rattle.certificate_checker.proofs.Soundness.{is_safe}
use Rattle.certificate_checker.proofs.law.proofs_are_sound.Goals as goal

pub returns : goal.returns
returns c = is_safe
