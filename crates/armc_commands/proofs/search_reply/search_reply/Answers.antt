use Rattle.armc_commands.proofs.search_reply.search_reply.Goals as goal

pub returns : goal.returns
returns g c = c.reply_to_verdict.ensures c.in_ok-verdict.ensures.verdict
