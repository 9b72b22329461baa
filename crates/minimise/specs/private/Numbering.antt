-- Classes by their first states, which stand in buckets: each bucket has its last state, and each first state the one before it in its own.
use Rattle.std.specs.Prelude.{◌≡◌, ◌<◌, ◌≤◌, ◌%◌, ℕ, suc, List, length, slice_index}

-- the state is the first of its class
abbrev pub IsFirst : List ℕ → ℕ → Type 0
IsFirst least r = slice_index least r ≡ suc r

-- the bucket of the state's class among so many
abbrev pub bucket_of : List ℕ → ℕ → ℕ → ℕ
bucket_of classes buckets r = slice_index classes r % buckets

-- states in class 0 have the number 0, others that of the one first state of their class
pub record AreNumbered (classes least : List ℕ) : Type 0 where
  pub dead : (r : ℕ) → r < length least → slice_index classes r ≡ 0 → slice_index least r ≡ 0
  pub live : (r : ℕ) → r < length least → (slice_index classes r ≡ 0 → ⊥)
      → (k : ℕ) × (slice_index least r ≡ suc k) × (k ≤ r) × IsFirst least k × (slice_index classes k ≡ slice_index classes r)
  pub one : (p r : ℕ) → IsFirst least p → IsFirst least r → slice_index classes p ≡ slice_index classes r → p ≡ r

-- the first states stand in the buckets of their classes, and none is left out
pub record AreInBuckets (buckets : ℕ) (classes heads links least : List ℕ) : Type 0 where
  pub some : 0 < buckets
  pub heads_count : length heads ≡ buckets
  pub links_count : length links ≡ length classes
  pub last : (b r : ℕ) → slice_index heads b ≡ suc r → IsFirst least r × (bucket_of classes buckets r ≡ b)
  pub before : (p r : ℕ) → IsFirst least p → slice_index links p ≡ suc r
      → IsFirst least r × (bucket_of classes buckets r ≡ bucket_of classes buckets p) × (r < p)
  pub below_last : (r : ℕ) → IsFirst least r → r < slice_index heads (bucket_of classes buckets r)
  pub below_before : (p r : ℕ) → IsFirst least p → IsFirst least r → bucket_of classes buckets r ≡ bucket_of classes buckets p → r < p
      → r < slice_index links p

-- the number is that of the first state of the class, 0 where there is none
pub record IsFound (classes least : List ℕ) (class number : ℕ) : Type 0 where
  pub none : number ≡ 0 → (r : ℕ) → IsFirst least r → slice_index classes r ≡ class → ⊥
  pub found : (r : ℕ) → number ≡ suc r → IsFirst least r × (slice_index classes r ≡ class)
