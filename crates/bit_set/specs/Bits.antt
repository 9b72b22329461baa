-- Sets of numbers as words of 64 bits.
use Rattle.std.specs.Prelude.{◌≡◌, ◌/◌, ◌%◌, ℕ, List, slice_index}
use Rattle.std.specs.Int.{bit_at}

-- the bit of the number is set; words that are not there have no bit
abbrev pub Has : List ℕ → ℕ → Type 0
Has words k = bit_at (slice_index words (k / 64)) (k % 64) ≡ 1
