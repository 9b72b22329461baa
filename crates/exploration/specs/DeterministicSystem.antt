-- Deterministic transition systems: automata whose states are values of any type.
use Rattle.std.specs.Prelude.{◌≡◌, ◌==◌, ◌<◌, ℕ, Bool, false, List, [], ◌∷◌, Option, None, Some, All, if◌then◌else◌}

-- the number of letters, the start state if there is one, where a letter leads from a state, and which states accept
pub record DeterministicSystem (S : Type 0) : Type 0 where
  pub letters : ℕ
  pub start : Option S
  pub step : S → ℕ → Option S
  pub accepting : S → Bool

-- whether the system accepts the word from the state
abbrev pub accepts_by_from : {S : Type 0} → DeterministicSystem S → S → List ℕ → Bool
accepts_by_from t s [] = t.accepting s
accepts_by_from t s (a ∷ w) = elim (t.step s a) [ None ↦ false | Some r ↦ accepts_by_from t r w ]

-- whether the system accepts the word from its start state; without a start state it accepts none
abbrev pub accepts_by : {S : Type 0} → DeterministicSystem S → List ℕ → Bool
accepts_by t w = elim t.start [ None ↦ false | Some s ↦ accepts_by_from t s w ]

-- the state beside the letter in a list of letters and states
abbrev pub look_up : {S : Type 0} → List (ℕ × S) → ℕ → Option S
look_up [] a = None
look_up (pair ∷ pairs) a = if pair.0 == a then Some pair.1 else look_up pairs a

-- the letters of the pairs increase
abbrev pub HasIncreasingLetters : {S : Type 0} → List (ℕ × S) → Type 0
HasIncreasingLetters [] = Unit {0}
HasIncreasingLetters (pair ∷ pairs) = All (λ later. pair.0 < later.0) pairs × HasIncreasingLetters pairs

-- the list has each step of the system from the state s, by increasing letters of the system, and leads to states with the property P
pub record IsSuccessors {S : Type 0} (t : DeterministicSystem S) (P : S → Type 0) (s : S) (pairs : List (ℕ × S)) : Type 0 where
  pub increasing : HasIncreasingLetters pairs
  pub letters_in_range : All (λ pair. pair.0 < t.letters) pairs
  pub states : All (λ pair. P pair.1) pairs
  pub steps : (a : ℕ) → look_up pairs a ≡ t.step s a
