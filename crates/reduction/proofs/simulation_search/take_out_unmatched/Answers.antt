use Rattle.std.proofs.Common.{◌≡◌, ◌-◌, ℕ, get_or, sym, subst, inl, inr, arith}
use Rattle.std.proofs.lemmas.Bool.{cases_lt}
use Rattle.reduction.specs.Simulation.{IsSimulatedBy}
use Rattle.reduction.proofs.Simulations.{simulation_all}
use Rattle.reduction.proofs.simulation_search.take_out_unmatched.Goals as goal

pub pairs-preserved : goal.pairs-preserved
pairs-preserved c =
    let n = c.args.automaton.now in
    let pairs = c.pairs.pairs in
    let last = c.pairs.place - 1 in
    let holds : IsSimulatedBy n pairs (get_or pairs last (0, 0)).0 (get_or pairs last (0, 0)).1 =
    subst (λ (pair : ℕ × ℕ). IsSimulatedBy n pairs pair.0 pair.1) (sym c.pair-low.ensures) (c.is_simulated.ensures c.if-not-is_simulated.false) in
    record {
      within = (let w = c.pairs.invariant.within in let t = c.pairs-test.true in omega arith);
      simulated = λ unchanged k from to. elim (cases_lt k c.pairs.place) [
        | inl less ↦
            let is : last ≡ k = (let t = c.pairs-test.true in omega arith) in
            subst (λ (j : ℕ). IsSimulatedBy n pairs (get_or pairs j (0, 0)).0 (get_or pairs j (0, 0)).1) is holds
        | inr more ↦ c.pairs.invariant.simulated unchanged k more to
      ];
    }

pub returns : goal.returns
returns c unchanged =
    simulation_all c.args.automaton.now c.pairs.pairs (λ k within. c.pairs.invariant.simulated unchanged k (let t = c.pairs-test.false in omega arith) within)
