-- Families of sets over places that are closed under preimages up to unions.
use Rattle.std.specs.Prelude.{◌≡◌, ◌≤◌, ◌<◌, ◌+◌, ℕ, List, [], Option, Contains, length, slice_index_or}
use Rattle.word_automata.specs.Nondeterministic.{NondeterministicAutomaton}
use Rattle.reduction.specs.Reduction.{AcceptsAlong}
use Rattle.bit_set.specs.Bits.{Has}
use Rattle.bit_set.specs.SetLists.{HasAt, AreEmpty}
use Rattle.atoms.specs.private.Places.{AreUsed, AreTurned, HoldsState, LeadsInto, AcceptsAt}

-- what has the property P is a union of sets, of which Holds tells what they have: each q with P is in a set all of which has P
abbrev pub IsUnionOf : (ℕ → ℕ → Type 0) → (ℕ → Type 0) → Type 0
IsUnionOf Holds P = (q : ℕ) → P q → (k : ℕ) × Holds k q × ((r : ℕ) → Holds k r → P r)

-- a union of sets of numbers
abbrev pub IsUnion : List (List ℕ) → (ℕ → Type 0) → Type 0
IsUnion sets P = IsUnionOf (HasAt sets) P

-- one of the sets lies within the set
abbrev pub IsPart : List (List ℕ) → List ℕ → ℕ → Type 0
IsPart sets set k = (k < length sets) × ((q : ℕ) → HasAt sets k q → Has set q)

-- each set that was seen is a union of sets
abbrev pub AreUnions : List (List ℕ) → List (List ℕ) → Type 0
AreUnions sets seen = (set : List ℕ) → Contains seen set → IsUnion sets (Has set)

-- new has the sets of old at the same places
pub record Begins (old new : List (List ℕ)) : Type 0 where
  pub count : length old ≤ length new
  pub same : (k : ℕ) → k < length old → slice_index_or new k [] ≡ slice_index_or old k []

-- sets come at the end alone, and what has the property is a union of sets
pub record AddsUnion (old new : List (List ℕ)) (P : ℕ → Type 0) : Type 0 where
  pub begins : Begins old new
  pub union : IsUnion new P

-- sets come at the end alone, and what each of the first other sets has is a union of sets
pub record AddsUnions (old new others : List (List ℕ)) (bound : ℕ) : Type 0 where
  pub begins : Begins old new
  pub unions : (a : ℕ) → a < bound → IsUnion new (HasAt others a)

-- sets come at the end alone, and the preimages of the set are unions of sets
pub record AddsPreimages (into : List (List (ℕ × ℕ))) (used set : List ℕ) (letters : ℕ) (old new : List (List ℕ)) : Type 0 where
  pub begins : Begins old new
  pub unions : (a : ℕ) → a < letters → IsUnion new (LeadsInto into used set a)

-- what accepts is a union of sets, and so are the preimages of each of the first sets
pub record IsClosedUpTo (n : NondeterministicAutomaton) (into : List (List (ℕ × ℕ))) (used : List ℕ) (letters : ℕ) (sets : List (List ℕ)) (bound : ℕ) : Type 0 where
  pub accepting : IsUnion sets (AcceptsAt n used)
  pub preimages : (k a : ℕ) → k < bound → a < letters → IsUnion sets (LeadsInto into used (slice_index_or sets k []) a)

-- whatever the labels, the states that accept along them are a union of sets
abbrev pub Covers : NondeterministicAutomaton → List ℕ → List (List ℕ) → Type 0
Covers n used sets = (labels : List (Option ℕ)) → IsUnionOf (λ k q. HoldsState used (slice_index_or sets k []) q) (λ q. AcceptsAlong n q labels)

-- the sets lost all their numbers
pub record IsEmptied (old new : List (List ℕ)) : Type 0 where
  pub count : length new ≡ length old
  pub none : (a number : ℕ) → HasAt new a number → ⊥
  pub room : (a : ℕ) → length (slice_index_or new a []) ≡ length (slice_index_or old a [])

-- a search is under way: the states that are used, the edges into each state, an empty set for each letter, sets of a family, those that
-- were seen, and how many of the family were gone on from
pub record IsUnderWay (n : NondeterministicAutomaton) (used : List ℕ) (into : List (List (ℕ × ℕ))) (preimages sets seen : List (List ℕ)) (next : ℕ) : Type 0 where
  pub places : AreUsed n used
  pub turned : AreTurned n used into
  pub empty : AreEmpty (n.letters + 1) (length used) preimages
  pub unions : AreUnions sets seen
  pub closed : IsClosedUpTo n into used (n.letters + 1) sets next
