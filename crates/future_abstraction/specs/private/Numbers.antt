-- Numbers of states by their signatures, where a class that is known to stay whole keeps its number, and others are looked up by hashes.
use Rattle.std.specs.Prelude.{◌≡◌, ◌<◌, ◌≤◌, ◌⊎◌, ℕ, suc, Bool, true, false, List, Option, Some, length, slice_index, slice_index_or}
use Rattle.word_automata.specs.Path.{edges_of}
use Rattle.word_automata.specs.Automaton.{Automaton}
use Rattle.minimise.specs.Signatures.{Signature, digest}
use Rattle.minimise.specs.Refinement.{signature_of, no_word}

-- the class is noted as one that stays whole
abbrev pub is_kept : List Bool → ℕ → Bool
is_kept kept class = slice_index_or kept class false

-- the class stays
pub record KeepsClass (kept : List Bool) (s : Signature) (number : ℕ) : Type 0 where
  pub some : s ≡ no_word → ⊥
  pub noted : is_kept kept s.class ≡ true
  pub above : (r : ℕ) × (number ≡ suc r)
  pub number_is : number ≡ s.class

-- the number is one more than the state that is known to have the hash first
pub record HasFirst (kept : List Bool) (known : ℕ → Option ℕ) (s : Signature) (number : ℕ) : Type 0 where
  pub some : s ≡ no_word → ⊥
  pub others : is_kept kept s.class ≡ false
  pub first : ℕ
  pub found : known (digest s) ≡ Some first
  pub number_is : number ≡ suc first

-- the number is told by the signature: 0 where it is that of no word
abbrev pub IsTold : List Bool → (ℕ → Option ℕ) → Signature → ℕ → Type 0
IsTold kept known s number = ((s ≡ no_word) × (number ≡ 0)) ⊎ (KeepsClass kept s number ⊎ HasFirst kept known s number)

-- what is known stays
abbrev pub Keeps : (ℕ → Option ℕ) → (ℕ → Option ℕ) → Type 0
Keeps known more = (hash first : ℕ) → known hash ≡ Some first → more hash ≡ Some first

-- a number above 0 is one more than a state of the same signature
abbrev pub IsLike : Automaton → List ℕ → ℕ → ℕ → Type 0
IsLike m classes q number = (r : ℕ) → number ≡ suc r → (r ≤ q) × (signature_of m classes r ≡ signature_of m classes q)

-- the state has a number, by its signature
pub record IsNumbered (m : Automaton) (classes : List ℕ) (kept : List Bool) (known more : ℕ → Option ℕ) (q number : ℕ) : Type 0 where
  pub keeps : Keeps known more
  pub told : IsTold kept more (signature_of m classes q) number
  pub like : IsLike m classes q number

-- the state's class serves as its number
pub record StaysAlike (m : Automaton) (classes : List ℕ) (q : ℕ) : Type 0 where
  pub dead : slice_index classes q ≡ 0 → signature_of m classes q ≡ no_word
  pub like : IsLike m classes q (slice_index classes q)

-- states of classes that are kept have one signature
abbrev pub AreStable : Automaton → List ℕ → List Bool → Type 0
AreStable m classes kept = (q : ℕ) → q < length m.states → is_kept kept (slice_index classes q) ≡ true → StaysAlike m classes q

-- each edge of the state leads to a state whose class is what it was
abbrev pub IsUnmoved : Automaton → List ℕ → List ℕ → ℕ → Type 0
IsUnmoved m older classes q = (i : ℕ) → i < length (edges_of m.states q)
    → slice_index older (slice_index_or (edges_of m.states q) i (0, 0)).1
    ≡ slice_index classes (slice_index_or (edges_of m.states q) i (0, 0)).1
