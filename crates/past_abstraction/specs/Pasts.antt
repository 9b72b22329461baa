-- The relation of pasts: states into which the same words of bounded length lead.
use Rattle.std.specs.Prelude.{◌≡◌, ◌↔◌, ◌<◌, ◌≤◌, ℕ, List, [], ◌∷◌, Some, length}
use Rattle.word_automata.specs.Automaton.{Automaton, target}
use Rattle.abstraction.specs.Merging.{Key}

-- the path from p that reads the word ends in q
abbrev pub LeadsTo : Automaton → ℕ → List ℕ → ℕ → Type 0
LeadsTo a p [] q = p ≡ q
LeadsTo a p (letter ∷ w) q = (r : ℕ) × (target a p letter ≡ Some r) × LeadsTo a r w q

-- the word is in the past of the state, and leads into it: some state, state 0 or another, has a path that reads the word and ends there
abbrev pub IsInPast : Automaton → List ℕ → ℕ → Type 0
IsInPast a w q = (p : ℕ) × (p < length a.states) × LeadsTo a p w q

-- each word of at most so many letters leads into both states or into neither
abbrev pub is_related : Key → Automaton → ℕ → ℕ → Type 0
is_related key a p q = (w : List ℕ) → length w ≤ key.bound → IsInPast a w p ↔ IsInPast a w q
