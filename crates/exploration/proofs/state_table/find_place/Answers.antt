use Rattle.std.proofs.Common.{◌≡◌, ◌-◌, ℕ, Some, length, slice_get, slice_index_or, sym, ap, subst, ◌∙◌, arith, true≢false}
use Rattle.exploration.specs.private.NumberHasher.{hash_by}
use Rattle.exploration.specs.private.StateTable.{Slot, code_of, slot_of}
use Rattle.exploration.proofs.Slots.{not_in_none, not_in_more, absent_at_free, absent_at_end}
use Rattle.exploration.proofs.state_table.find_place.Goals.{else-held-code-via-then-held-code+else-stands_at, else-held-code-via-else-held-code}
use Rattle.exploration.proofs.state_table.find_place.Goals as goal

pub steps-init : goal.steps-init
steps-init g c = record { before = not_in_none c.args.states.now c.args.slots.now c.args.state.now c.code_of-code.result }

pub returns-then-number-eq0-clause-absent : goal.returns-then-number-eq0-clause-absent
returns-then-number-eq0-clause-absent g c =
    let slots = c.args.slots.now in
    let code = c.code_of-code.result in
    let step = c.steps.step in
    absent_at_free (hash_by g.S.Hash.hash_input) c.args.states.now slots c.requires.table c.args.state.now code (c.code_of-code.ensures ∙ ap code_of c.requires.hash) step
    c.steps.invariant.before (ap (λ i. (slice_index_or slots i (0, 0)).1) (sym {b = slot_of (length slots) code step} c.slot_of.ensures.is) ∙ c.if-number-eq0.true)

pub returns-clause-absent : goal.returns-clause-absent
returns-clause-absent g c =
    absent_at_end (hash_by g.S.Hash.hash_input) c.args.states.now c.args.slots.now c.requires.table c.args.state.now c.code_of-code.result
    (c.code_of-code.ensures ∙ ap code_of c.requires.hash) c.steps.step (let t = c.steps-test.false in omega arith) c.steps.invariant.before

pub steps-preserved : goal.steps-preserved
steps-preserved g c =
    let slots = c.args.slots.now in
    let states = c.args.states.now in
    let state = c.args.state.now in
    let code = c.code_of-code.result in
    let step = c.steps.step in
    let at_slot : ℕ → Slot = λ i. slice_index_or slots i (0, 0) in
    record {
      before = not_in_more states slots state code step c.steps.invariant.before (λ r stands at.
          let read = ap at_slot c.slot_of.ensures.is ∙ stands in
          let number = ap (λ (slot : Slot). slot.1) read in
          let place : r ≡ (at_slot c.slot_of.result).1 - 1 = omega arith in
          elim c.else-held-code.branch [
            | else-held-code-via-then-held-code+else-stands_at w ↦
                true≢false (sym (w.if-stands_at.ensures.1 (subst (λ i. slice_get states i ≡ Some state) place at)))
            | else-held-code-via-else-held-code w ↦ w.if-held-code.false (ap (λ (slot : Slot). slot.0) read)
          ]);
    }
