-- Least accepted words.
use Rattle.std.specs.Prelude.{◌≡◌, ℕ, false, List, IsTrue}
use Rattle.sequence.specs.WordOrder.{IsLeastWord}
use Rattle.word_automata.specs.Automaton.{Automaton, accepts}

-- the automaton accepts no word
abbrev pub AcceptsNothing : Automaton → Type 0
AcceptsNothing m = (w : List ℕ) → accepts m w ≡ false

-- no word is accepted before this one, which is
abbrev pub IsLeastAccepted : Automaton → List ℕ → Type 0
IsLeastAccepted m w = IsLeastWord (λ v. IsTrue (accepts m v)) w
