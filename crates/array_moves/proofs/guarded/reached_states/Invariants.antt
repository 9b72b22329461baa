use Rattle.std.proofs.Common.{◌-◌, ◌^◌, length}
use Rattle.array_moves.proofs.ControlLemmas.{IsGrowing}
use Rattle.array_moves.proofs.guarded.reached_states.Given as goal

abbrev pub invariant-controls : goal.invariant-controls
invariant-controls l = IsGrowing l.guard_table l.alphabet.offset l.alphabet.count l.controls.keys l.states.items

abbrev pub decreases-controls : goal.decreases-controls
decreases-controls l = 2 ^ 64 - length l.states.items
