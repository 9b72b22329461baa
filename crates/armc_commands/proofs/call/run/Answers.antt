use Rattle.std.proofs.Common.{map}
use Rattle.std.specs.Prelude.{string_bytes}
use Rattle.armc_commands.proofs.Answered.{Answers-made, IsSound-answer, IsDecided-answer, IsQuiet-ends, KeepsCounts-made}
use Rattle.armc_commands.proofs.Promised.{promised}
use Rattle.armc_commands.proofs.UsageLemmas.{usage_only}
use Rattle.armc_commands.proofs.call.run.Goals as goal

pub returns-clause-answer : goal.returns-clause-answer
returns-clause-answer g c = Answers-made _ _ _ _ _ _ _ _ _ c.reply_to-outcome.ensures.outcome c.answer.ensures

pub returns-clause-sound : goal.returns-clause-sound
returns-clause-sound g c =
    IsSound-answer (promised c.keep_promises.ensures) (map string_bytes c.args.words.now) (g.L.Library.state c.args.library.now)
    (g.L.Library.state c.reply_to-outcome.new.library) _ _ _ _ _
    (Answers-made _ _ _ _ _ _ _ _ _ c.reply_to-outcome.ensures.outcome c.answer.ensures)

pub returns-clause-decided : goal.returns-clause-decided
returns-clause-decided g c =
    IsDecided-answer _ _ _ _ _ _ _ _ (Answers-made _ _ _ _ _ _ _ _ _ c.reply_to-outcome.ensures.outcome c.answer.ensures)

pub returns-clause-quiet : goal.returns-clause-quiet
returns-clause-quiet g c =
    IsQuiet-ends _ _ _ _ _ _ _ _ _ c.reply_to-outcome.ensures.outcome c.reply_to-outcome.ensures.quiet c.answer.ensures

pub returns-clause-counts : goal.returns-clause-counts
returns-clause-counts g c = KeepsCounts-made _ _ _ _ _ _ _ c.reply_to-outcome.result c.reply_to-outcome.ensures.no_fall c.answer.ensures

pub returns-clause-usage : goal.returns-clause-usage
returns-clause-usage g c =
    usage_only (map string_bytes c.args.words.now) (g.L.Library.state c.args.library.now)
    (g.L.Library.state c.reply_to-outcome.new.library) _ _ _ _ _
    (Answers-made _ _ _ _ _ _ _ _ _ c.reply_to-outcome.ensures.outcome c.answer.ensures)

pub returns-clause-one_reply : goal.returns-clause-one_reply
returns-clause-one_reply g c = c.one_reply.ensures (map string_bytes c.args.words.now) (g.L.Library.state c.args.library.now).told

pub returns-clause-workers : goal.returns-clause-workers
returns-clause-workers g c = c.workers_keep_reply.ensures (map string_bytes c.args.words.now) (g.L.Library.state c.args.library.now).told

pub returns-clause-larger_budget : goal.returns-clause-larger_budget
returns-clause-larger_budget g c =
    c.larger_budget_keeps_reply.ensures.query (map string_bytes c.args.words.now) (g.L.Library.state c.args.library.now).told

pub returns-clause-larger_budget_of_parts : goal.returns-clause-larger_budget_of_parts
returns-clause-larger_budget_of_parts g c =
    c.larger_budget_keeps_reply.ensures.parts (map string_bytes c.args.words.now) (g.L.Library.state c.args.library.now).told
