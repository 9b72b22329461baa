-- A number that is written as its bytes is one word.
use Rattle.std.proofs.Common.{◌≡◌, ◌<◌, ◌^◌, ℕ, sym, ap, ◌∙◌, arith}
use Rattle.std.specs.Hash.{le_bytes}
use Rattle.exploration.specs.declared.number_hasher.NumberHasher.{NumberHasher}
use Rattle.exploration.specs.private.NumberHasher.{word_at, mixed, write}

one_word : (i : ℕ) → i < 2 ^ 64 → word_at (le_bytes 8 i) 0 ≡ i
unfolding le_bytes
one_word i l = omega arith

pub written : (h : NumberHasher) (i number : ℕ) → i < 2 ^ 64 → number ≡ mixed h.number i → record { number = number } ≡ write h (le_bytes 8 i)
unfolding le_bytes
written h i number l e = ap (λ (n : ℕ). record { number = n }) (e ∙ ap (mixed h.number) (sym (one_word i l)))
