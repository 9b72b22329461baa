-- Sets of words that merging keeps out.
use Rattle.std.specs.Prelude.{ℕ, List, [], ◌∷◌, IsTrue}
use Rattle.word_automata.specs.Automaton.{Automaton, accepts}
use Rattle.abstraction.specs.Merging.{Key, IsMerged}

-- no word is accepted by both
abbrev pub Misses : Automaton → Automaton → Type 0
Misses a x = (w : List ℕ) → IsTrue (accepts a w) → IsTrue (accepts x w) → ⊥

-- x accepts no word of the automaton with related states merged
abbrev pub MergedMisses : (ℕ → ℕ → Type 0) → Automaton → Automaton → Type 0
MergedMisses R a x = (w : List ℕ) → IsMerged R a w → IsTrue (accepts x w) → ⊥

-- the key, refined by each of the sets in order
abbrev pub refined_by : (Key → Automaton → Key) → Key → List Automaton → Key
refined_by next key [] = key
refined_by next key (x ∷ xs) = refined_by next (next key x) xs

-- after a refinement by a set, and by any others later, each automaton that misses the set misses it when it is merged
abbrev pub Excludes : (Key → Automaton → ℕ → ℕ → Type 0) → (Key → Automaton → Key) → Type 0
Excludes related next =
    (key : Key) (x : Automaton) (later : List Automaton) (a : Automaton) → Misses a x
    → MergedMisses (related (refined_by next (next key x) later) a) a x
