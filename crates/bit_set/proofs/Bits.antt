-- Words of 64 bits, bit by bit.
use Rattle.std.proofs.Common.{◌≡◌, ◌↔◌, ◌⊎◌, ℕ, ◌*◌, ◌%◌, ◌^◌, ◌<◌, max, ap, inl, inr, arith, w64}
use Rattle.std.proofs.lemmas.Bool.{cases_lt}
use Rattle.std.proofs.lemmas.Nat.{and_le_l}
use Rattle.std.proofs.lemmas.Nat.Bits.{bit_at_or, bit_at_and, bit_at-lt, bit_at-zero, bit_at_above, same_from_bits_below, bit_at_set_same, bit_at_set_other, bit_at_clear_same, bit_at_clear_other, bit_at-trailing_zeros}
use Rattle.std.proofs.Math.Numerals.{lt_of_le_of_ne}
use Rattle.std.specs.Prelude.{bit_and, bit_or}
use Rattle.std.specs.Int.{bit_at, bit_not}
use Rattle.bit_set.specs.private.Words.{HasBit, IsPart, AddsBit, TakesBit, AreCommonBits}

-- 0 has no bit
pub HasBit-zero : (i : ℕ) → HasBit 0 i → ⊥
HasBit-zero i has = let none = bit_at-zero i in absurd (omega arith)

-- no word has a bit past its end
pub HasBit-within : (word i : ℕ) → word < 2 ^ 64 → HasBit word i → i < 64
HasBit-within word i small has = elim (cases_lt i 64) [
  | inl less ↦ less
  | inr past ↦ let none = bit_at_above word 64 i small past in absurd (omega arith)
]

pub HasBit-or : (a b i : ℕ) → HasBit (bit_or a b) i ↔ (HasBit a i ⊎ HasBit b i)
HasBit-or a b i = (to, from)
  where
    both : bit_at (bit_or a b) i ≡ max (bit_at a i) (bit_at b i)
    both = bit_at_or a b i

    to : HasBit (bit_or a b) i → HasBit a i ⊎ HasBit b i
    to has = elim (cases_lt (bit_at a i) 1) [
      | inl less ↦ inr (let e = both in let m = bit_at-lt b i in omega arith)
      | inr more ↦ inl (let m = bit_at-lt a i in omega arith)
    ]

    from : HasBit a i ⊎ HasBit b i → HasBit (bit_or a b) i
    from (inl has) = let e = both in let m = bit_at-lt b i in omega arith
    from (inr has) = let e = both in let m = bit_at-lt a i in omega arith

pub common_bits_same : (a b : ℕ) → AreCommonBits a b (bit_and a b)
common_bits_same a b i =
    let both = bit_at_and a b i in
    let mine = bit_at-lt a i in
    let its = bit_at-lt b i in
    (λ has. (omega arith, omega arith), λ has. let h = has.0 in let o = has.1 in omega arith)

-- a word that is not 0 has a bit
pub some_bit : (word : ℕ) → word < 2 ^ 64 → (word ≡ 0 → ⊥) → (i : ℕ) × (i < 64) × HasBit word i
some_bit word small some =
    let lowest = bit_at-trailing_zeros w64 word (omega arith) small in
    (_, lowest.0, lowest.1)

-- a word is part of another exactly where it is what both have
pub part_same : (word other : ℕ) → bit_and word other ≡ word → IsPart word other
part_same word other same i small has =
    let both = bit_at_and word other i in
    let here : bit_at (bit_and word other) i ≡ bit_at word i = ap (λ x. bit_at x i) same in
    let m = bit_at-lt other i in
    omega arith

pub same_part : (word other : ℕ) → word < 2 ^ 64 → IsPart word other → bit_and word other ≡ word
same_part word other small part =
    same_from_bits_below 64 (bit_and word other) word (let low = and_le_l word other in omega arith) small (λ i within.
    let both = bit_at_and word other i in
    let mine = bit_at-lt word i in
    let its = bit_at-lt other i in
    elim (cases_lt (bit_at word i) 1) [
      | inl less ↦ omega arith
      | inr more ↦ let has = part i within (omega arith) in omega arith
    ])

pub adds_bit : (word bit : ℕ) → bit < 64 → AddsBit word bit (bit_or word (1 * 2 ^ bit % 2 ^ 64))
adds_bit word bit within = record {
  added = bit_at_set_same w64 word bit within;
  others = λ i other. bit_at_set_other w64 word bit within i other;
}

pub takes_bit : (word bit : ℕ) → word < 2 ^ 64 → bit < 64 → HasBit word bit → TakesBit word bit (bit_and word (bit_not w64 (1 * 2 ^ bit % 2 ^ 64)))
takes_bit word bit small within here =
    let new = bit_and word (bit_not w64 (1 * 2 ^ bit % 2 ^ 64)) in
    let none : bit_at new bit ≡ 0 = bit_at_clear_same w64 word bit within in
    record {
      taken = λ has. absurd (omega arith);
      others = λ i l other. bit_at_clear_other w64 word bit within i l other;
      less = lt_of_le_of_ne (and_le_l word (bit_not w64 (1 * 2 ^ bit % 2 ^ 64))) (λ same.
          let e : bit_at new bit ≡ bit_at word bit = ap (λ x. bit_at x bit) same in
          let h = here in
          absurd (omega arith));
    }
