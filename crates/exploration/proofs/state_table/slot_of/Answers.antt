use Rattle.std.proofs.Common.{length}
use Rattle.exploration.proofs.Slots.{slot_below}
use Rattle.exploration.proofs.state_table.slot_of.Goals as goal

pub returns-clause-within : goal.returns-clause-within
returns-clause-within c = slot_below (length c.args.slots.now) c.args.code c.args.step c.requires
