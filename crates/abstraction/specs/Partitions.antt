-- Partitions of states into blocks, which have numbers. Only private functions cite what is said of the blocks into which states are moved.
use Rattle.std.specs.Prelude.{◌≡◌, ◌↔◌, ◌<◌, ◌≤◌, ℕ, List, [], ◌∷◌, ◌++◌, Contains, length, slice_index, slice_set}

-- a number below the number of states for each state
pub record AreNumbers (states : ℕ) (classes : List ℕ) : Type 0 where
  pub count : length classes ≡ states
  pub below : (p : ℕ) → p < states → slice_index classes p < states

-- numbers of blocks: of each state, and of each block the one into which some of its states were moved last
pub record AreBlocks (blocks moved : List ℕ) : Type 0 where
  pub of_states : (p : ℕ) → p < length blocks → slice_index blocks p < length moved
  pub of_moves : (k : ℕ) → k < length moved → slice_index moved k < length moved

-- states stay in one block where both are in the set, or neither
pub record IsRefined (set blocks finer : List ℕ) : Type 0 where
  pub count : length finer ≡ length blocks
  pub apart : (p q : ℕ) → p < length blocks → q < length blocks
      → (slice_index finer p ≡ slice_index finer q)
      ↔ ((slice_index blocks p ≡ slice_index blocks q) × (Contains set p ↔ Contains set q))

-- states of the block were moved to a block from the first new one on
pub record IsKnownMove (old new : List ℕ) (block first_new to : ℕ) : Type 0 where
  pub known : first_new ≤ slice_index old block
  pub to_is : to ≡ slice_index old block
  pub same : new ≡ old

-- none were, and they are moved to a block that is added
pub record IsNewMove (old new : List ℕ) (block first_new to : ℕ) : Type 0 where
  pub unknown : slice_index old block < first_new
  pub to_is : to ≡ length old
  pub added : new ≡ slice_set (old ++ 0 ∷ []) block (length old)

-- numbers below the number of states, equal exactly where the blocks are
pub record IsNumbering (blocks classes : List ℕ) : Type 0 where
  pub numbers : AreNumbers (length blocks) classes
  pub same : (p q : ℕ) → p < length blocks → q < length blocks
      → (slice_index classes p ≡ slice_index classes q) ↔ (slice_index blocks p ≡ slice_index blocks q)
