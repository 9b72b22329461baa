use Rattle.armc_commands.proofs.MigrateLemmas.{automaton-meant, run-meant, few-states}
use Rattle.armc_commands.proofs.commands.migrate.migrated_text.Goals as goal

pub write_safe2-requires-clause-letters : goal.write_safe2-requires-clause-letters
write_safe2-requires-clause-letters c =
    (automaton-meant c.args.system.now c.requires.0 _ _ c.in-Automaton.is c.requires.1).automaton.letters_are

pub write_safe2-requires-clause-limit : goal.write_safe2-requires-clause-limit
write_safe2-requires-clause-limit c =
    few-states c.args.system.now c.requires.0 _ (automaton-meant c.args.system.now c.requires.0 _ _ c.in-Automaton.is c.requires.1)

pub write_unsafe-requires : goal.write_unsafe-requires
write_unsafe-requires c = (run-meant c.args.system.now c.requires.0 _ _ c.in-BadRun.is c.requires.1).is_run
