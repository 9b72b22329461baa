use Rattle.std.proofs.Common.{◌≡◌, ◌<◌, ◌≤◌, ℕ, false, length, get_or}
use Rattle.reduction.specs.Simulation.{IsSimulatedBy}
use Rattle.reduction.proofs.simulation_search.take_out_unmatched.Given as goal

abbrev pub invariant-pairs : goal.invariant-pairs
invariant-pairs l = record {
  within : l.place ≤ length l.pairs;
  simulated : l.is_changed ≡ false → (k : ℕ) → l.place ≤ k → k < length l.pairs
      → IsSimulatedBy l.automaton l.pairs (get_or l.pairs k (0, 0)).0 (get_or l.pairs k (0, 0)).1;
}

abbrev pub decreases-pairs : goal.decreases-pairs
decreases-pairs l = l.place
