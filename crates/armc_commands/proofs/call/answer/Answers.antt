use Rattle.std.proofs.Common.{inr}
use Rattle.armc_commands.proofs.call.answer.Goals as goal

pub returns-in-Err : goal.returns-in-Err
returns-in-Err g c =
    inr (record { delivered = c.deliver-in-Err.ensures.texts; out_faults = c.deliver-in-Err.ensures.out; err_faults = c.deliver-in-Err.ensures.err })
