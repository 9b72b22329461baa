use Rattle.std.proofs.Common.{subst}
use Rattle.exploration.specs.private.StateTable.{IsFreeSlot}
use Rattle.exploration.proofs.Slots.{stands_there, keeps_slots, keeps_same}
use Rattle.exploration.proofs.state_table.put.Goals.{In_ok-slot}
use Rattle.exploration.proofs.state_table.put.Goals as goal

is_free : (c : In_ok-slot) → IsFreeSlot c.args.slots.now.items c.args.code c.in_ok-slot.slot
is_free c = subst (λ slots. IsFreeSlot slots c.args.code c.in_ok-slot.slot) c.as_slice.ensures.value c.in_ok-slot.ensures

pub returns-in_err-slot-clause-kept : goal.returns-in_err-slot-clause-kept
returns-in_err-slot-clause-kept c = keeps_same c.args.slots.now.items

pub returns-clause-kept : goal.returns-clause-kept
returns-clause-kept c =
    keeps_slots c.args.slots.now.items c.args.code c.args.number c.in_ok-slot.slot c.requires (is_free (goal.at.returns-clause-kept c).In_ok-slot)

pub returns-clause-stands : goal.returns-clause-stands
returns-clause-stands c =
    stands_there c.args.slots.now.items c.args.code c.args.number c.in_ok-slot.slot c.requires (is_free (goal.at.returns-clause-stands c).In_ok-slot)
