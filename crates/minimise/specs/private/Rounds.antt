-- Rounds of refinement by hashes of signatures, and classes that are stable.
use Rattle.std.specs.Prelude.{◌≡◌, ◌+◌, ◌*◌, ◌%◌, ◌/◌, ◌^◌, ℕ, suc, List, Some, length, slice_index, slice_get, if◌then◌else◌}
use Rattle.std.specs.List.{filter_map, fold}
use Rattle.word_automata.specs.Path.{Node, edges_of, is_accepting}
use Rattle.word_automata.specs.Automaton.{Automaton, accepts_from}
use Rattle.minimise.specs.Signatures.{Signature}
use Rattle.minimise.specs.Refinement.{live_edge, no_word}

-- some word tells the states apart
abbrev pub AreApart : Automaton → ℕ → ℕ → Type 0
AreApart m p q = (w : List ℕ) × (accepts_from m p w ≡ accepts_from m q w → ⊥)

-- states in different classes are told apart by some word
pub record AreToldApart (m : Automaton) (classes : List ℕ) : Type 0 where
  pub count : length classes ≡ length m.states
  pub told_apart : (p q : ℕ) → (slice_index classes p ≡ slice_index classes q → ⊥) → AreApart m p q

-- the signature of a state without its own class
abbrev pub outgoing_in : List ℕ → Node ℕ → Signature
outgoing_in classes node = record { class = 0; accepting = node.accepting; edges = filter_map (live_edge classes) node.edges }

abbrev pub outgoing : Automaton → List ℕ → ℕ → Signature
outgoing m classes q = record {
  class = 0;
  accepting = is_accepting m.states q;
  edges = filter_map (live_edge classes) (edges_of m.states q);
}

-- a number of 64 bits with a multiple of its own upper half, and a number in which a part is mixed
abbrev pub with_square : ℕ → ℕ
with_square n = (n * (2 * (n / 4294967296) + 1)) % 2 ^ 64

abbrev pub mixed_in : ℕ → ℕ → ℕ
mixed_in value part = with_square ((((value + part) % 2 ^ 64) * 11400714819323198485) % 2 ^ 64)

-- a letter with the class to which it leads as a number
abbrev pub edge_number : ℕ × ℕ → ℕ
edge_number edge = ((edge.0 * 11400714819323198485) % 2 ^ 64 + edge.1) % 2 ^ 64

abbrev pub mixed_in_edge : ℕ → ℕ × ℕ → ℕ
mixed_in_edge value edge = mixed_in value (edge_number edge)

-- the hash of a signature without its class, of which that of no word is 0
abbrev pub hash_of : Signature → ℕ
hash_of s = fold mixed_in_edge (if s.accepting then 1 else 0) s.edges

-- each state's class in the finer list is the hash of its signature by the coarser one
pub record AreHashes (states : List (Node ℕ)) (classes finer : List ℕ) : Type 0 where
  pub count : length finer ≡ length states
  pub each : (q : ℕ) (state : Node ℕ) → slice_get states q ≡ Some state → slice_index finer q ≡ hash_of (outgoing_in classes state)

-- the state has the signature of the least state of its class, and that of no word in class 0
pub record IsLikeLeast (m : Automaton) (classes : List ℕ) (q : ℕ) : Type 0 where
  pub dead : slice_index classes q ≡ 0 → outgoing m classes q ≡ no_word
  pub live : (r : ℕ) → slice_index classes q ≡ suc r → outgoing m classes q ≡ outgoing m classes r

-- states of one class have one signature
abbrev pub AreAlike : Automaton → List ℕ → Type 0
AreAlike m classes = (p q : ℕ) → slice_index classes p ≡ slice_index classes q → outgoing m classes p ≡ outgoing m classes q
