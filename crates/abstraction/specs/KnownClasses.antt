-- Classes of states that are known, and the automata that were merged by them.
use Rattle.std.specs.Prelude.{◌≡◌, ℕ, List, length}
use Rattle.word_automata.specs.Automaton.{Automaton}
use Rattle.safety_problem.specs.Task.{IsAutomatonOf}
use Rattle.abstraction.specs.Merging.{Key, AreClasses, HaveEqualClasses, IsMerged}

-- they are classes of the states of the automaton under a key from which a refuted set leads to this one
pub record AreClassesBefore (related : Key → Automaton → ℕ → ℕ → Type 0) (next : Key → Automaton → Key) (key : Key) (a : Automaton) (classes : List ℕ) : Type 0 where
  pub before : Key
  pub refuted : Automaton
  pub leads : next before refuted ≡ key
  pub are : AreClasses (related before a) (length a.states) classes

-- there is a class for each state, equal exactly where states are related, and the automaton is the canonical one with the states of one class merged
pub record IsMergedBy (R : ℕ → ℕ → Type 0) (a : Automaton) (classes : List ℕ) (m : Automaton) : Type 0 where
  pub are : AreClasses R (length a.states) classes
  pub by_classes : IsAutomatonOf a.letters (IsMerged (HaveEqualClasses classes) a) m
  pub related : IsAutomatonOf a.letters (IsMerged R a) m
