-- Counts that never fall. They stand still at the last value of 64 bits.
use Rattle.std.specs.Prelude.{ℕ, ◌+◌, ◌<◌, ◌≤◌, ◌⊎◌, nat_lt, if◌then◌else◌}

-- the last value of a count
abbrev pub last_count : ℕ
last_count = 18446744073709551615

-- a count went up, or stands at its last value
abbrev pub Rose : ℕ → ℕ → Type 0
Rose old new = (old < new) ⊎ (last_count ≤ new)

-- one more, up to the last value
abbrev pub next_count : ℕ → ℕ
next_count n = if nat_lt n last_count then n + 1 else n
