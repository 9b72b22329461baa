-- States of an automaton that may be missing.
use Rattle.std.specs.Prelude.{◌<◌, ℕ, Bool, false, List, [], ◌∷◌, Option, None, Some, length}
use Rattle.word_automata.specs.Path.{Node, edges_of, is_accepting}
use Rattle.word_automata.specs.Automaton.{Automaton, target}

-- the start state, if there is a state
abbrev pub start_of : List (Node ℕ) → Option ℕ
start_of [] = None
start_of (node ∷ nodes) = Some 0

-- where the letter leads from the state, if anywhere
abbrev pub follow : Automaton → Option ℕ → ℕ → Option ℕ
follow m None a = None
follow m (Some q) a = target m q a

-- whether the state is there and accepts
abbrev pub accepts_at : Automaton → Option ℕ → Bool
accepts_at m None = false
accepts_at m (Some q) = is_accepting m.states q

-- the edges of the state, none where there is no state
abbrev pub edges_at : Automaton → Option ℕ → List (ℕ × ℕ)
edges_at m None = []
edges_at m (Some q) = edges_of m.states q

-- the state, if there is one, is one of the automaton's
abbrev pub IsStateOrNone : Automaton → Option ℕ → Type 0
IsStateOrNone m None = Unit {0}
IsStateOrNone m (Some q) = q < length m.states
