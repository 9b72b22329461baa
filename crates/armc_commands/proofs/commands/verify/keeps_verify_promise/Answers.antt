use Rattle.armc_commands.proofs.VerifyLemmas.{verify-promised}
use Rattle.armc_commands.proofs.commands.verify.keeps_verify_promise.Goals as goal

pub returns : goal.returns
returns c = λ s valid text reply h.
    verify-promised c.proofs_are_sound.ensures c.one_reading.ensures.meaning c.one_reading.ensures.either c.one_answer.ensures s valid text reply h
