use Rattle.std.proofs.Common.{List, Option, ℕ, sym, subst, ◌∙◌}
use Rattle.std.proofs.lemmas.Bool.{true≢false}
use Rattle.word_automata.specs.Path.{edges_of}
use Rattle.reduction.specs.Simulation.{IsSimulatedBy, AreMatched}
use Rattle.reduction.proofs.Simulations.{simulated_by_itself}
use Rattle.reduction.proofs.simulation_search.is_simulated.Goals as goal
use Rattle.reduction.proofs.simulation_search.is_simulated.Goals.{else-accepting-via-then-accepting+else-not-accepting, else-accepting-via-else-accepting}

pub returns-then-low-high : goal.returns-then-low-high
returns-then-low-high c t =
    subst (λ q. IsSimulatedBy c.args.automaton.now c.args.pairs.now c.args.low q) c.if-low-high.true (simulated_by_itself c.args.automaton.now c.args.pairs.now c.args.low)

pub returns : goal.returns
returns c all =
    let n = c.args.automaton.now in
    let pairs = c.args.pairs.now in
    record {
      accepts = λ low. elim c.else-accepting.branch [
        | else-accepting-via-then-accepting+else-not-accepting w ↦ sym w.accepting-then-accepting.ensures ∙ w.if-not-accepting.false
        | else-accepting-via-else-accepting w ↦ absurd (true≢false (sym low ∙ sym c.accepting.ensures ∙ w.if-accepting.false))
      ];
      matched = subst (λ (edges : List (Option ℕ × ℕ)). AreMatched pairs edges (edges_of n.states c.args.high)) c.edges_from.ensures.edges
          (subst (λ (others : List (Option ℕ × ℕ)). AreMatched pairs c.edges_from.result.now others) c.edges_from-2.ensures.edges (c.are_matched.ensures all));
    }
