use Rattle.std.proofs.Common.{◌∙◌}
use Rattle.protocol_model.proofs.Unchanged.{renamed_same}
use Rattle.protocol_model.proofs.copies.copy_move.Goals as goal

pub returns-in-Ok : goal.returns-in-Ok
returns-in-Ok c = c.in-Ok.ensures.1 ∙ renamed_same c.args.source.now
