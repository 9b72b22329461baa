use Rattle.std.proofs.Common.{ℕ, ◌<◌, ◌↔◌, Contains}
use Rattle.atoms.specs.Covers.{IsWithin}
use Rattle.atoms.proofs.rows.Atoms.states_within.Given as goal

abbrev pub invariant-states : goal.invariant-states
invariant-states l = (q : ℕ) → Contains l.states.items q ↔ ((q < l.state) × IsWithin l.self l.signature q)
