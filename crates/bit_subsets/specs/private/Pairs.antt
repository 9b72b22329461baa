-- Pairs of different states.
use Rattle.std.specs.Prelude.{◌≡◌, ℕ, List, Contains}

-- each of the pairs is one of the others, and has different parts
abbrev pub AreDifferentPairs : List (ℕ × ℕ) → List (ℕ × ℕ) → Type 0
AreDifferentPairs others pairs = (p q : ℕ) → Contains pairs (p, q) → Contains others (p, q) × (p ≡ q → ⊥)
