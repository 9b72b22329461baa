-- Relations on the states of automata, and the words of an automaton whose related states are merged.
use Rattle.std.specs.Prelude.{◌≡◌, ◌↔◌, ◌<◌, ℕ, List, [], ◌∷◌, All, IsTrue, Some, length, slice_get}
use Rattle.word_automata.specs.Path.{is_accepting}
use Rattle.word_automata.specs.Automaton.{Automaton, target}

-- what an abstraction relates states by: automata, or a bound on lengths
pub record Key : Type 0 where
  pub automata : List Automaton
  pub bound : ℕ

-- all automata of the key have so many letters
abbrev pub IsOver : ℕ → Key → Type 0
IsOver letters key = All (λ m. m.letters ≡ letters) key.automata

-- the relation is an equivalence
pub record IsEquivalence (R : ℕ → ℕ → Type 0) : Type 0 where
  pub reflexive : (p : ℕ) → R p p
  pub symmetric : (p q : ℕ) → R p q → R q p
  pub transitive : (p q r : ℕ) → R p q → R q r → R p r

-- there is one class for each of so many states, and two states have equal classes exactly where they are related
pub record AreClasses (R : ℕ → ℕ → Type 0) (states : ℕ) (classes : List ℕ) : Type 0 where
  pub count : length classes ≡ states
  pub related : (p q : ℕ) → p < states → q < states → (slice_get classes p ≡ slice_get classes q) ↔ R p q

-- the states have equal classes
abbrev pub HaveEqualClasses : List ℕ → ℕ → ℕ → Type 0
HaveEqualClasses classes p q = slice_get classes p ≡ slice_get classes q

-- the word is accepted from the state where each state may stand for a related one: without a letter some related state accepts,
-- and a letter leads from some related state to one from which the rest is accepted
abbrev pub IsMergedFrom : (ℕ → ℕ → Type 0) → Automaton → ℕ → List ℕ → Type 0
IsMergedFrom R a q [] = (p : ℕ) × R q p × IsTrue (is_accepting a.states p)
IsMergedFrom R a q (letter ∷ w) = (p : ℕ) × R q p × (r : ℕ) × (target a p letter ≡ Some r) × IsMergedFrom R a r w

-- the word is one of the automaton with related states merged; without a state there is none
abbrev pub IsMerged : (ℕ → ℕ → Type 0) → Automaton → List ℕ → Type 0
IsMerged R a w = IsMergedFrom R a 0 w
