use Rattle.std.proofs.Common.{sym, ap, ◌∙◌, slice_index_or}
use Rattle.exploration.proofs.Slots.{taken_more}
use Rattle.exploration.proofs.state_table.free_slot.Goals as goal

pub returns-then-slots-slot-eq0 : goal.returns-then-slots-slot-eq0
returns-then-slots-slot-eq0 c =
    let slots = c.args.slots.now in
    let step = c.steps.step in
    record {
      steps = step;
      within = c.steps-test.true;
      is = c.slot_of-slot.ensures.is;
      free = ap (λ i. (slice_index_or slots i (0, 0)).1) (sym c.slot_of-slot.ensures.is) ∙ c.if-slots-slot-eq0.true;
      taken = c.steps.invariant.taken;
    }

pub steps-preserved : goal.steps-preserved
steps-preserved c =
    let slots = c.args.slots.now in
    let step = c.steps.step in
    record {
      taken = taken_more slots c.args.code step c.steps.invariant.taken
          (λ free. c.if-slots-slot-eq0.false (ap (λ i. (slice_index_or slots i (0, 0)).1) c.slot_of-slot.ensures.is ∙ free));
    }
