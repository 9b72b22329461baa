-- The relation of futures: states from which the same words of bounded length are accepted.
use Rattle.std.specs.Prelude.{◌≡◌, ◌≤◌, ℕ, List, length}
use Rattle.word_automata.specs.Automaton.{Automaton, accepts_from}
use Rattle.abstraction.specs.Merging.{Key}

-- each word of at most so many letters is accepted from both states or from neither
abbrev pub is_related : Key → Automaton → ℕ → ℕ → Type 0
is_related key a p q = (w : List ℕ) → length w ≤ key.bound → accepts_from a p w ≡ accepts_from a q w
