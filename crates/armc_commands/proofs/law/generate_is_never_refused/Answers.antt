use Rattle.armc_commands.proofs.NeverRefused.{never_refused}
use Rattle.armc_commands.proofs.law.generate_is_never_refused.Goals as goal

pub returns : goal.returns
returns c = never_refused c.one_reading.ensures.protocol c.one_reading.ensures.fault c.one_reading.ensures.either
