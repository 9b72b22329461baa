use Rattle.std.proofs.Common.{List, ℕ, IfOk, subst}
use Rattle.word_automata.specs.Nondeterministic.{NondeterministicAutomaton}
use Rattle.reduction.specs.Reduction.{KeepsStarts}
use Rattle.reduction.specs.Simulation.{AreIncluded}
use Rattle.reduction.proofs.ForCallers.{starts_keep}
use Rattle.determinise.proofs.maximal.maximal_states.Goals as goal

pub returns-then-not-has_low : goal.returns-then-not-has_low
returns-then-not-has_low c n included = starts_keep n c.args.states.items

pub returns : goal.returns
returns c =
    subst (λ (xs : List ℕ). IfOk c.without_low.result (λ kept. (n : NondeterministicAutomaton) → AreIncluded n c.args.pairs.now → KeepsStarts n xs kept.items))
    c.deref-2.ensures.value c.without_low.ensures
