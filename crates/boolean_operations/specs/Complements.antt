-- Complements of automata: each letter leads on from each state, also from the missing one.
use Rattle.std.specs.Prelude.{ℕ, Bool, not, List, Option, None, Some, nat_lt, if◌then◌else◌}
use Rattle.std.specs.List.{list_all}
use Rattle.word_automata.specs.Automaton.{Automaton}
use Rattle.exploration.specs.DeterministicSystem.{DeterministicSystem}
use Rattle.boolean_operations.specs.OptionalStates.{start_of, follow, accepts_at}

-- whether the word is one over so many letters
abbrev pub are_letters : ℕ → List ℕ → Bool
are_letters n w = list_all (λ a. nat_lt a n) w

-- the complement of an automaton
abbrev pub complement_system : Automaton → DeterministicSystem (Option ℕ)
complement_system m = record {
  letters = m.letters;
  start = Some (start_of m.states);
  step = λ state a. if nat_lt a m.letters then Some (follow m state a) else None;
  accepting = λ state. not (accepts_at m state);
}
