-- Signatures of states by predicate automata: with which of their states each state shares a word.
use Rattle.std.specs.Prelude.{◌≡◌, ◌↔◌, ◌&&◌, ◌*◌, ℕ, Bool, true, List, map, length}
use Rattle.std.specs.List.{flat_map, list_any, range_with_len, sum_by}
use Rattle.word_automata.specs.Automaton.{Automaton, accepts_from, IsValid}
use Rattle.abstraction.specs.Merging.{Key}
use Rattle.abstraction.specs.BoundedWords.{words_up_to}
use Rattle.abstraction.specs.Signatures.{AreSignatures}
use Rattle.predicate_abstraction.specs.Predicates.{SharesWord, is_related}

-- whether some word with no more letters than there are pairs of states is accepted from both states
abbrev pub shares_word : Automaton → ℕ → Automaton → ℕ → Bool
shares_word a p b s = list_any (λ w. accepts_from a p w && accepts_from b s w) (words_up_to a.letters (length a.states * length b.states))

-- whether the state shares a word with each state of each of the automata, in order
abbrev pub signature : Key → Automaton → ℕ → List Bool
signature key a p = flat_map (λ (b : Automaton). map (shares_word a p b) (range_with_len 0 (length b.states))) key.automata

-- the test is right: it is passed exactly where some word, of any length, is accepted from both states
abbrev pub TestsSharedWords : Type 0
TestsSharedWords = (a : Automaton) → IsValid a → (p : ℕ) (b : Automaton) (s : ℕ) → (shares_word a p b s ≡ true) ↔ SharesWord a p b s

-- the number of these states
abbrev pub tests : Key → ℕ
tests key = sum_by (λ (b : Automaton). length b.states) key.automata

-- states are related exactly where their signatures are equal
abbrev pub RelatedBySignature : Type 0
RelatedBySignature = (key : Key) (letters : ℕ) → AreSignatures letters (is_related key) (tests key) (signature key)
