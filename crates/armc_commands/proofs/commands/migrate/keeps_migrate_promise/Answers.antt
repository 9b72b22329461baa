use Rattle.armc_commands.proofs.MigrateLemmas.{migrate_promised}
use Rattle.armc_commands.proofs.commands.migrate.keeps_migrate_promise.Goals as goal

pub returns : goal.returns
returns c = migrate_promised
