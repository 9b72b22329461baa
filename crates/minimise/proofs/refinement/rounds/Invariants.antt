use Rattle.std.proofs.Common.{◌-◌, length}
use Rattle.std.specs.List.{sum_by}
use Rattle.word_automata.specs.Automaton.{IsValid}
use Rattle.minimise.specs.Refinement.{AreCoarse}
use Rattle.minimise.proofs.refinement.rounds.Given as goal

abbrev pub invariant-rounds : goal.invariant-rounds
invariant-rounds l = record {
  valid : IsValid l.automaton;
  coarse : AreCoarse l.automaton l.classes.items;
}

abbrev pub decreases-rounds : goal.decreases-rounds
decreases-rounds l = sum_by (λ c. length l.automaton.states - c) l.classes.items
