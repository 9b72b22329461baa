-- What a walk over triples has found: of a state of a transducer, one of the automaton whose words are read and one of the automaton in which
-- the words that are written are looked for. A number that is no state of an automaton stands for no state.
use Rattle.std.specs.Prelude.{◌≡◌, ◌<◌, ◌≤◌, ◌+◌, ◌-◌, ◌&&◌, ◌⊎◌, ◌↔◌, ℕ, Bool, true, false, not, List, Option, None, Some, IsTrue, Contains, length, slice_get, slice_index_or}
use Rattle.word_automata.specs.Path.{edges_of, is_accepting}
use Rattle.word_automata.specs.Automaton.{Automaton, HasIncreasingLetters, accepts_from}
use Rattle.transducers.specs.declared.Label.{Label}
use Rattle.transducers.specs.Transducer.{Transducer, RelatesFrom}
use Rattle.image_preimage.specs.declared.triples.Triple.{Triple}
use Rattle.image_preimage.specs.Gaps.{IsGap}
use Rattle.image_preimage.specs.Images.{HasImageOutside, IsImageIncluded}
use Rattle.image_preimage.specs.Pairs.{advance}

-- the state, or the number of states where there is none
abbrev pub or_no_state : Automaton → Option ℕ → ℕ
or_no_state b None = length b.states
or_no_state b (Some r) = r

abbrev pub triple_of : ℕ → ℕ → ℕ → Triple
triple_of p q r = record { left = p; middle = q; right = r }

-- the transducer and the automaton that is read accept there, and the other automaton does not
abbrev pub is_goal : Transducer → Automaton → Automaton → Triple → Bool
is_goal t a b triple = (is_accepting t.states triple.left && is_accepting a.states triple.middle) && not (is_accepting b.states triple.right)

-- the transducer relates a word that the first automaton accepts to one that the second refuses, each from its state of the triple
pub record LeadsOut (t : Transducer) (a b : Automaton) (triple : Triple) : Type 0 where
  pub word : List ℕ
  pub image : List ℕ
  pub run : RelatesFrom t triple.left word image
  pub accepted : IsTrue (accepts_from a triple.middle word)
  pub refused : accepts_from b triple.right image ≡ false

-- triples that lead out were found only where some word of the image is refused
abbrev pub AreReached : Transducer → Automaton → Automaton → List Triple → Type 0
AreReached t a b found = (i : ℕ) (triple : Triple) → slice_get found i ≡ Some triple → LeadsOut t a b triple → HasImageOutside t a b

-- triples keep their places
abbrev pub Grows : List Triple → List Triple → Type 0
Grows old new = (i : ℕ) (triple : Triple) → slice_get old i ≡ Some triple → slice_get new i ≡ Some triple

-- the triple was found
abbrev pub IsFound : List Triple → Triple → Type 0
IsFound found triple = (i : ℕ) × (slice_get found i ≡ Some triple)

-- where the edge leads from the triple, if anywhere, was found
abbrev pub IsFollowed : Automaton → Automaton → List Triple → Triple → Label × ℕ → Type 0
IsFollowed a b found triple edge =
    (to : ℕ) → advance a triple.middle edge.0.read ≡ Some to
    → IsFound found (triple_of edge.1 to (or_no_state b (advance b triple.right edge.0.write)))

-- the triple was found, and perhaps others before it
pub record Finds (t : Transducer) (a b : Automaton) (old new : List Triple) (triple : Triple) : Type 0 where
  pub reached : AreReached t a b new
  pub grows : Grows old new
  pub is_found : IsFound new triple

-- the edges were followed from the triple
pub record Follows (t : Transducer) (a b : Automaton) (old new : List Triple) (triple : Triple) (edges : List (Label × ℕ)) : Type 0 where
  pub reached : AreReached t a b new
  pub grows : Grows old new
  pub followed : (edge : Label × ℕ) → Contains edges edge → IsFollowed a b new triple edge

-- both automata are the same and in one state, and the transducer is in one with the flag
abbrev pub IsSkipped : Automaton → Automaton → List Bool → Triple → Type 0
IsSkipped a b copying triple = (a ≡ b) × (triple.middle ≡ triple.right) × (slice_index_or copying triple.left false ≡ true)

-- the triple is skipped, or all its edges were followed
abbrev pub IsPassed : Transducer → Automaton → Automaton → List Bool → List Triple → Triple → Type 0
IsPassed t a b copying found triple =
    IsSkipped a b copying triple ⊎ ((edge : Label × ℕ) → Contains (edges_of t.states triple.left) edge → IsFollowed a b found triple edge)

-- the triple was gone on from
pub record Visits (t : Transducer) (a b : Automaton) (copying : List Bool) (old new : List Triple) (triple : Triple) : Type 0 where
  pub reached : AreReached t a b new
  pub grows : Grows old new
  pub is_passed : IsPassed t a b copying new triple

-- the triple is no goal, and was gone on from
abbrev pub IsDone : Transducer → Automaton → Automaton → List Bool → List Triple → Triple → Type 0
IsDone t a b copying found triple = (is_goal t a b triple ≡ false) × IsPassed t a b copying found triple

-- the starts were found, and each triple that was found is pending or done
pub record Walks (t : Transducer) (a b : Automaton) (copying : List Bool) (found : List Triple) (pending : List ℕ) : Type 0 where
  pub reached : AreReached t a b found
  pub starts : (p : ℕ) → Contains t.starts p → IsFound found (triple_of p 0 0)
  pub there : (i : ℕ) → Contains pending i → i < length found
  pub done : (i : ℕ) (triple : Triple) → slice_get found i ≡ Some triple → Contains pending i ⊎ IsDone t a b copying found triple

-- the answer says whether the second automaton accepts each word of the image
pub record Decides (t : Transducer) (a b : Automaton) (included : Bool) : Type 0 where
  pub included_is : IsTrue included ↔ IsImageIncluded t a b
  pub outside : included ≡ false → HasImageOutside t a b

-- the places from the first up to the end are added
pub record AddsPlaces (old new : List ℕ) (from end : ℕ) : Type 0 where
  pub kept : (i : ℕ) → Contains old i → Contains new i
  pub added : (i : ℕ) → from ≤ i → i < end → Contains new i
  pub only : (i : ℕ) → Contains new i → Contains old i ⊎ (i < end)
  pub count : length new ≡ length old + (end - from)

-- edges of the state, and a gap between them
pub record IsGapAt (a : Automaton) (state : ℕ) (edges : List (ℕ × ℕ)) (low high : ℕ) : Type 0 where
  pub edges_are : edges ≡ edges_of a.states state
  pub sorted : HasIncreasingLetters edges
  pub gap : IsGap edges low high
