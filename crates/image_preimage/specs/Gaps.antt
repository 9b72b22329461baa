-- Gaps between the edges of a state, which are sorted by letter. Only private functions cite this.
use Rattle.std.specs.Prelude.{◌≡◌, ◌<◌, ℕ, List, Option, None, Some}
use Rattle.word_automata.specs.Automaton.{find_target}

-- no letter between these two has an edge
abbrev pub IsGap : List (ℕ × ℕ) → ℕ → ℕ → Type 0
IsGap edges low high = (letter : ℕ) → low < letter → letter < high → find_target edges letter ≡ None

-- the letter is one between these two
abbrev pub IsInGap : ℕ → ℕ → Option ℕ → Type 0
IsInGap low high label = (letter : ℕ) × (label ≡ Some letter) × (low < letter) × (letter < high)
