use Rattle.exploration.proofs.Slots.{keeps_same}
use Rattle.exploration.proofs.state_table.make_room.Goals as goal

pub returns-then-count-len : goal.returns-then-count-len
returns-then-count-len c = keeps_same c.args.slots.now.items
