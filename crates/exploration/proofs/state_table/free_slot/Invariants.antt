use Rattle.std.proofs.Common.{◌≡◌, ◌<◌, ℕ}
use Rattle.exploration.specs.private.StateTable.{slot_after}
use Rattle.exploration.proofs.state_table.free_slot.Given as goal

abbrev pub invariant-steps : goal.invariant-steps
invariant-steps l = record { taken : (step : ℕ) → step < l.step → (slot_after l.slots l.code step).1 ≡ 0 → ⊥ }
