-- The atoms of the languages of states: which states accept a word, for all words at once. A state accepts along labels where some path
-- with them leads from it to an accepting state; an edge without a letter has a label too, so that nothing here depends on there being none.
use Rattle.std.specs.Prelude.{◌≡◌, ◌<◌, ℕ, List, [], ◌∷◌, Option, Contains, All, length}
use Rattle.word_automata.specs.Nondeterministic.{NondeterministicAutomaton, AcceptsFromAny}
use Rattle.reduction.specs.Reduction.{AcceptsAlong}
use Rattle.bit_set.specs.Bits.{Has}
use Rattle.bit_set.specs.SetLists.{HasAt}

-- each state has a row of numbers: along whatever labels a state accepts, it has a number which only states have that accept along them
pub record AreAtomsOf (n : NondeterministicAutomaton) (rows : List (List ℕ)) : Type 0 where
  pub count : length rows ≡ length n.states
  pub cover : (labels : List (Option ℕ)) (q : ℕ) → AcceptsAlong n q labels
      → (k : ℕ) × HasAt rows q k × ((r : ℕ) → HasAt rows r k → AcceptsAlong n r labels)

-- the signature has the numbers that the states have together
pub record IsSignature (rows : List (List ℕ)) (states signature : List ℕ) : Type 0 where
  pub in_range : All (λ q. q < length rows) states
  pub only : (k : ℕ) → Has signature k → (q : ℕ) × Contains states q × HasAt rows q k
  pub all : (q k : ℕ) → Contains states q → HasAt rows q k → Has signature k

-- the state has no number but those of the signature
abbrev pub IsWithin : List (List ℕ) → List ℕ → ℕ → Type 0
IsWithin rows signature q = (k : ℕ) → HasAt rows q k → Has signature k

-- some state accepts the word that has no number but those of the signature
abbrev pub AcceptsWithin : NondeterministicAutomaton → List (List ℕ) → List ℕ → List ℕ → Type 0
AcceptsWithin n rows signature w = (q : ℕ) × (q < length n.states) × IsWithin rows signature q × AcceptsFromAny n (q ∷ []) w
