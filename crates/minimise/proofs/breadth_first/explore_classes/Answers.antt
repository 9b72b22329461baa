use Rattle.std.proofs.Common.{◌≡◌, ◌≤◌, ℕ, List, length, sym, subst, arith}
use Rattle.word_automata.specs.Automaton.{accepts}
use Rattle.exploration.specs.DeterministicSystem.{accepts_by}
use Rattle.exploration.specs.Numbering.{IsBreadthFirst, StandsFor}
use Rattle.minimise.specs.Refinement.{quotient, IsLeastState}
use Rattle.minimise.proofs.LeastNumbers.{built_language, built_breadth_first, built_states}
use Rattle.minimise.proofs.breadth_first.explore_classes.Goals.{After-finish}
use Rattle.minimise.proofs.breadth_first.explore_classes.Goals as goal

all_at : (c : After-finish) → length c.states.found.items ≤ c.states.next
all_at c = let t = c.states-test.false in let n = c.len.ensures in omega arith

pub returns-clause-language : goal.returns-clause-language
returns-clause-language c =
    subst (λ built. (w : List ℕ) → accepts built w ≡ accepts_by (quotient c.args.automaton.now c.args.classes.now) w) (sym c.finish.ensures)
    (built_language c.states.invariant.explored (all_at (goal.at.returns-clause-language c).After-finish))

pub returns-clause-breadth_first : goal.returns-clause-breadth_first
returns-clause-breadth_first c =
    subst IsBreadthFirst (sym c.finish.ensures) (built_breadth_first c.states.invariant.explored (all_at (goal.at.returns-clause-breadth_first c).After-finish))

pub returns-clause-states : goal.returns-clause-states
returns-clause-states c =
    subst (StandsFor (quotient c.args.automaton.now c.args.classes.now) (IsLeastState c.args.automaton.now c.args.classes.now)) (sym c.finish.ensures)
    (built_states c.states.invariant.explored (all_at (goal.at.returns-clause-states c).After-finish))
