-- What automata accept from states that may be missing.
use Rattle.std.proofs.Common.{◌≡◌, ℕ, ◌<◌, Bool, false, List, [], ◌∷◌, Option, None, Some, All, refl, sym}
use Rattle.std.proofs.lemmas.List.Elements.{All-nil}
use Rattle.word_automata.specs.Path.{Node}
use Rattle.word_automata.specs.Automaton.{Automaton, accepts, accepts_from, target, find_target, IsValid, HasIncreasingLetters}
use Rattle.word_automata.proofs.ForCallers.{accepts-empty, target_within, ordered_edges, All-edges_of}
use Rattle.boolean_operations.specs.OptionalStates.{start_of, follow, accepts_at, edges_at, IsStateOrNone}

-- whether the automaton accepts the word from the state, if there is one
abbrev pub accepts_option : Automaton → Option ℕ → List ℕ → Bool
accepts_option m None w = false
accepts_option m (Some q) w = accepts_from m q w

pub accepts_option-nil : (m : Automaton) (s : Option ℕ) → accepts_option m s [] ≡ accepts_at m s
accepts_option-nil m None = refl
accepts_option-nil m (Some q) = refl

accepts_on : (m : Automaton) (next : Option ℕ) (w : List ℕ) → (elim next as (λ o. Bool) [ None ↦ false | Some r ↦ accepts_from m r w ]) ≡ accepts_option m next w
accepts_on m None w = refl
accepts_on m (Some r) w = refl

pub accepts_option-cons : (m : Automaton) (s : Option ℕ) (a : ℕ) (w : List ℕ) → accepts_option m s (a ∷ w) ≡ accepts_option m (follow m s a) w
accepts_option-cons m None a w = refl
accepts_option-cons m (Some q) a w = accepts_on m (target m q a) w

-- from the start
pub accepts_option-start : (m : Automaton) (w : List ℕ) → accepts_option m (start_of m.states) w ≡ accepts m w
accepts_option-start m w = by m.states refl
  where
    by : (states : List (Node ℕ)) → m.states ≡ states → accepts_option m (start_of states) w ≡ accepts m w
    by [] none = sym (accepts-empty m none w)
    by (node ∷ nodes) some = refl

-- where a letter leads from a state there is a state or none
pub follow-within : (m : Automaton) → IsValid m → (s : Option ℕ) (a : ℕ) → IsStateOrNone m (follow m s a)
follow-within m valid None a = tt
follow-within m valid (Some q) a = by (target m q a) refl
  where
    by : (next : Option ℕ) → target m q a ≡ next → IsStateOrNone m next
    by None none = tt
    by (Some r) found = target_within m valid q a r found

-- the edges of a state are sorted, and over the letters
pub edges_at-increasing : (m : Automaton) → IsValid m → (s : Option ℕ) → HasIncreasingLetters (edges_at m s)
edges_at-increasing m valid None = tt
edges_at-increasing m valid (Some q) = ordered_edges m valid q

pub edges_at-letters : (m : Automaton) → IsValid m → (s : Option ℕ) → All (λ edge. edge.0 < m.letters) (edges_at m s)
edges_at-letters m valid None = All-nil (λ (edge : ℕ × ℕ). edge.0 < m.letters)
edges_at-letters m valid (Some q) =
    All-edges_of (All (λ (edge : ℕ × ℕ). edge.0 < m.letters)) m.states (All-nil (λ (edge : ℕ × ℕ). edge.0 < m.letters)) valid.letters_in_range q

-- a letter leads where the edge with it does
pub follow-edges : (m : Automaton) (s : Option ℕ) (a : ℕ) → follow m s a ≡ find_target (edges_at m s) a
follow-edges m None a = refl
follow-edges m (Some q) a = refl
