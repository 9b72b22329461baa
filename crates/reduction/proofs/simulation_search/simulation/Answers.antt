use Rattle.std.proofs.Common.{List, ℕ, sym, subst}
use Rattle.reduction.specs.Simulation.{IsSimulation}
use Rattle.reduction.proofs.simulation_search.simulation.Goals as goal

pub returns-then-is_some : goal.returns-then-is_some
returns-then-is_some c =
    subst (λ (xs : List (ℕ × ℕ)). IsSimulation c.args.automaton.now xs) (sym c.in_ok-is_some.ensures)
    (c.take_out_unmatched-is_changed.ensures c.if-not-is_changed.true)
