use Rattle.protocol_model.specs.Numbering.{system_of}
use Rattle.armc_commands.proofs.QueryLemmas.{query-not-safe}
use Rattle.armc_commands.proofs.law.bad_run_rules_out_safe.Goals as goal

pub returns : goal.returns
returns c = λ file query limits p text run reply bad h done.
    query-not-safe query (system_of p) limits.budget run reply bad (c.keeps_query_promise.ensures query limits.budget (system_of p) reply h) done
