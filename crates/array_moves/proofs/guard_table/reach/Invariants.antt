use Rattle.std.proofs.Common.{◌≡◌, take}
use Rattle.array_moves.specs.private.Flags.{reach_of}
use Rattle.array_moves.proofs.guard_table.reach.Given as goal

abbrev pub invariant-effects : goal.invariant-effects
invariant-effects l = l.reach ≡ reach_of (take l.effect-index l.effects)
