-- Inclusion of the words of a nondeterministic automaton in those of a deterministic one.
use Rattle.std.specs.Prelude.{◌≡◌, ℕ, false, List, IsTrue}
use Rattle.word_automata.specs.Automaton.{Automaton, accepts}
use Rattle.word_automata.specs.Nondeterministic.{NondeterministicAutomaton, Accepts}

-- the word is accepted by the first and refused by the second
abbrev pub IsOutside : NondeterministicAutomaton → Automaton → List ℕ → Type 0
IsOutside n m w = Accepts n w × (accepts m w ≡ false)

-- each word of the first is one of the second
abbrev pub IsIncluded : NondeterministicAutomaton → Automaton → Type 0
IsIncluded n m = (w : List ℕ) → Accepts n w → IsTrue (accepts m w)
