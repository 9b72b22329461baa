use Rattle.std.proofs.Common.{ℕ, ◌<◌, get_or, length}
use Rattle.atoms.proofs.rows.Atoms.are_states.Given as goal

abbrev pub invariant-states : goal.invariant-states
invariant-states l = (m : ℕ) → m < l.state-index → get_or l.states m 0 < length l.self
