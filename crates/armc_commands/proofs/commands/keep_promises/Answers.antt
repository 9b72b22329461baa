use Rattle.command_words.specs.Words.{verify, migrate, steps, show, searching, checking_all, generate}
use Rattle.protocol_model.specs.Numbering.{system_of}
use Rattle.armc_commands.proofs.commands.keep_promises.Goals as goal

-- each reply keeps what its command promises
pub returns : goal.returns
returns c (verify file certificate) source p text reply says h =
    let law = c.texts_say_allowed_protocols.ensures in
    c.keeps_verify_promise.ensures (system_of p) (law.valid p (law.allowed source p says.is_protocol) says.no_fault) text reply h
returns c (migrate file certificate) source p text reply says h = c.keeps_migrate_promise.ensures (system_of p) text reply h
returns c (steps file configuration) source p text reply says h = tt
returns c (show file) source p text reply says h = tt
returns c (searching file query limits) source p text reply says h = c.keeps_query_promise.ensures query limits.budget (system_of p) reply h
returns c (checking_all file properties limits) source p text reply says h =
    c.keeps_check_all_promise.ensures (system_of p) limits.budget text reply h
returns c (generate number workers) source p text reply says h = c.keeps_generate_promise.ensures (system_of p) number reply h
