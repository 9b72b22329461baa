-- Deterministic automata of the words of nondeterministic ones.
use Rattle.std.specs.Prelude.{◌≡◌, ◌↔◌, ℕ, List, IsTrue}
use Rattle.word_automata.specs.Automaton.{Automaton, accepts, IsValid}
use Rattle.word_automata.specs.Nondeterministic.{NondeterministicAutomaton, Accepts}

-- the deterministic automaton is valid, has the letters of the other one and accepts its words
pub record IsDeterminised (n : NondeterministicAutomaton) (dfa : Automaton) : Type 0 where
  pub language : (w : List ℕ) → IsTrue (accepts dfa w) ↔ Accepts n w
  pub letters : dfa.letters ≡ n.letters
  pub valid : IsValid dfa
