use Rattle.std.proofs.Common.{◌<◌, ℕ}
use Rattle.protocol_model.specs.Patterns.{list_at}
use Rattle.protocol_model.specs.Steps.{move_of, ChangesBy}
use Rattle.protocol_steps.proofs.steps.all_change.Given as goal

-- the sections before k change so
abbrev pub invariant-sections : goal.invariant-sections
invariant-sections l = (j : ℕ) → j < l.k → ChangesBy (move_of l.moves j) (list_at l.c j) (list_at l.d j)
