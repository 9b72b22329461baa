use Rattle.exploration.proofs.Slots.{keeps_through}
use Rattle.exploration.proofs.state_table.add_place.Goals as goal

pub returns-clause-kept : goal.returns-clause-kept
returns-clause-kept c =
    keeps_through c.args.slots.now.items c.make_room.new.slots.items c.put.new.slots.items c.in_ok-make_room.ensures c.put.ensures.kept
