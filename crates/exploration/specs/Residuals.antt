-- Systems whose states stand for languages, and whose letters lead to states that stand for what may follow the letter.
use Rattle.std.specs.Prelude.{◌≡◌, ◌<◌, ◌↔◌, ℕ, List, ◌∷◌, Option, None, Some, All}
use Rattle.exploration.specs.DeterministicSystem.{look_up, HasIncreasingLetters}

-- the start state's language is that of the system; without a start state no word is accepted
abbrev pub StartsWith : {S : Type 0} → (List ℕ → Type 0) → (S → List ℕ → Type 0) → Option S → Type 0
StartsWith accepted language None = (w : List ℕ) → accepted w → ⊥
StartsWith accepted language (Some s) = (w : List ℕ) → accepted w ↔ language s w

-- by increasing letters, the list has for each letter that begins a word of the language of s a state with the property P whose
-- language is that of the rests of these words
pub record AreResiduals {S : Type 0} (letters : ℕ) (language : S → List ℕ → Type 0) (P : S → Type 0) (s : S) (pairs : List (ℕ × S)) : Type 0 where
  pub increasing : HasIncreasingLetters pairs
  pub letters_in_range : All (λ pair. pair.0 < letters) pairs
  pub states : All (λ pair. P pair.1) pairs
  pub goes_on : (a : ℕ) (r : S) → look_up pairs a ≡ Some r → (w : List ℕ) → language s (a ∷ w) ↔ language r w
  pub stops : (a : ℕ) → look_up pairs a ≡ None → (w : List ℕ) → language s (a ∷ w) → ⊥
