use Rattle.std.proofs.Common.{length}
use Rattle.armc_commands.proofs.CheckAllLemmas.{Completes}
use Rattle.armc_commands.proofs.commands.checkall.told_parts.Given as goal

abbrev pub invariant-parts : goal.invariant-parts
invariant-parts l = Completes l.budget l.properties l.verdicts (length l.yielded) l.text.items
