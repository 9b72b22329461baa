-- The relation of predicates: states whose languages meet the same languages of states of some automata.
use Rattle.std.specs.Prelude.{◌↔◌, ◌<◌, ℕ, List, [], ◌∷◌, ◌++◌, IsTrue, Contains, length}
use Rattle.word_automata.specs.Automaton.{Automaton, accepts_from}
use Rattle.abstraction.specs.Merging.{Key}

-- some word is accepted from both states
abbrev pub SharesWord : Automaton → ℕ → Automaton → ℕ → Type 0
SharesWord a p b s = (w : List ℕ) × IsTrue (accepts_from a p w) × IsTrue (accepts_from b s w)

-- each state of each of the predicate automata shares a word with the one state exactly where it shares one with the other
abbrev pub MeetSame : List Automaton → Automaton → ℕ → ℕ → Type 0
MeetSame predicates a p q = (b : Automaton) → Contains predicates b → (s : ℕ) → s < length b.states → SharesWord a p b s ↔ SharesWord a q b s

abbrev pub is_related : Key → Automaton → ℕ → ℕ → Type 0
is_related key a p q = MeetSame key.automata a p q

-- the key of these predicate automata
abbrev pub predicates : List Automaton → Key
predicates automata = record { automata = automata; bound = 0 }

-- the refuted set is one more predicate automaton
abbrev pub next_key : Key → Automaton → Key
next_key key x = record { automata = key.automata ++ x ∷ []; bound = key.bound }

-- the key that there was at first, and the sets by which it was refined, in order
pub record RefinedKey : Type 0 where
  pub first : Key
  pub refuted : List Automaton

-- the predicate automata are those of the first key and the refuted sets
abbrev pub key_of : RefinedKey → Key
key_of k = record { automata = k.first.automata ++ k.refuted; bound = k.first.bound }

-- one more set
abbrev pub refined_with : RefinedKey → Automaton → RefinedKey
refined_with k x = record { first = k.first; refuted = k.refuted ++ x ∷ [] }
