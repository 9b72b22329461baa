-- Signatures of states by words of bounded length: which of the words are accepted from each state.
use Rattle.std.specs.Prelude.{ℕ, Bool, List, map, length}
use Rattle.word_automata.specs.Automaton.{Automaton, accepts_from}
use Rattle.abstraction.specs.Merging.{Key}
use Rattle.abstraction.specs.BoundedWords.{words_up_to}
use Rattle.abstraction.specs.Signatures.{AreSignatures}
use Rattle.future_abstraction.specs.Futures.{is_related}

-- whether each word of at most so many letters is accepted from the state, in the order of words
abbrev pub future_signature : Key → Automaton → ℕ → List Bool
future_signature key a p = map (accepts_from a p) (words_up_to a.letters key.bound)

-- the number of these words
abbrev pub tests : Key → ℕ → ℕ
tests key letters = length (words_up_to letters key.bound)

-- states are related exactly where their signatures are equal
abbrev pub RelatedBySignature : Type 0
RelatedBySignature = (key : Key) (letters : ℕ) → AreSignatures letters (is_related key) (tests key letters) (future_signature key)
