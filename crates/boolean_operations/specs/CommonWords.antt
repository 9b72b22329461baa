-- Words that a nondeterministic and a deterministic automaton accept.
use Rattle.std.specs.Prelude.{ℕ, List, IsTrue}
use Rattle.word_automata.specs.Automaton.{Automaton, accepts}
use Rattle.word_automata.specs.Nondeterministic.{NondeterministicAutomaton, Accepts}

-- both accept the word
abbrev pub IsCommonWord : NondeterministicAutomaton → Automaton → List ℕ → Type 0
IsCommonWord n m w = Accepts n w × IsTrue (accepts m w)
