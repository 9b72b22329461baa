use Rattle.protocol_steps.proofs.Fitting.{lists_fit_lengths}
use Rattle.std.proofs.Common.{sym}
use Rattle.protocol_steps.proofs.configurations.lists_fit.Goals as goal

pub returns-then-sections-lists : goal.returns-then-sections-lists
returns-then-sections-lists c = sym (lists_fit_lengths c.args.sections.now c.args.lists.now c.if-sections-lists.true)
