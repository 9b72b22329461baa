-- Counts that never fall.
use Rattle.std.proofs.Common.{◌≡◌, ℕ, ◌+◌, ◌≤◌, true, false, nat_lt, cond, refl, inl, inr, arith}
use Rattle.armc_io.specs.Faults.{last_count, Rose, next_count}

-- the next count is not lower
pub le-next_count : (n : ℕ) → n ≤ next_count n
le-next_count n = grind arith

-- the next count is higher, or the last value
pub Rose-next_count : (n : ℕ) → Rose n (next_count n)
Rose-next_count n =
    elim (nat_lt n last_count) as (λ b. nat_lt n last_count ≡ b → Rose n (cond b (n + 1) n))
    [ true ↦ λ h. inl (omega arith) | false ↦ λ h. inr (grind arith) ] refl
