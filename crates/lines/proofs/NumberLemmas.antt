-- Numbers and their texts.
use Rattle.std.proofs.Common.{◌≡◌, ℕ, zero, suc, ◌+◌, ◌*◌, ◌^◌, ◌<◌, min, List, [], ◌∷◌, length, get_or, sym, ap, subst, ◌≤◌}
use Rattle.std.proofs.Common.{arith, inl, inr}
use Rattle.std.specs.Str.Parse.{AllDigits, digits_value}
use Rattle.std.specs.Char.{digit_value}
use Rattle.std.specs.Int.{IsOutOfRange}
use Rattle.std.specs.Prelude.{decimal}
use Rattle.std.proofs.lemmas.Fmt.{decimal_is_IsNumeral, first_decimal, decimal_digit}
use Rattle.std.proofs.lemmas.Bool.{cases_eq}
use Rattle.std.proofs.lemmas.Bool.Decides.{nat_tests}
use Rattle.lines.specs.Bytes.{Lacks, IsNumber}
use Rattle.lines.specs.Grammar.{Says, number}

-- each byte of digits is a digit
pub AllDigits-at : (ds : List ℕ) (i : ℕ) → AllDigits 10 ds → i < length ds → digit_value (get_or ds i 0) < 10
AllDigits-at [] i h l = absurd (omega arith)
AllDigits-at (d ∷ ds) zero h l = h.0
AllDigits-at (d ∷ ds) (suc i) h l = AllDigits-at ds i h.1 (omega arith)

-- a byte outside the digits has no digit's value
below_digits : (b : ℕ) → b < 48 → digit_value b < 10 → ⊥
below_digits b low l = grind (arith, nat_tests)

above_digits : (b : ℕ) → 57 < b → digit_value b < 10 → ⊥
above_digits b high l = grind (arith, nat_tests)

pub not_digit : (b : ℕ) → IsOutOfRange 48 57 b → digit_value b < 10 → ⊥
not_digit b (inl low) l = below_digits b low l
not_digit b (inr high) l = above_digits b high l

-- a number that is capped at each digit is capped at the end
pub capped_step : (v d c : ℕ) → min (min v c * 10 + d) c ≡ min (v * 10 + d) c
capped_step v d c = omega arith

length-of_zero : (n : ℕ) → n ≡ 0 → length (decimal n) ≡ 1
length-of_zero n e = ap length (decimal_digit n (omega arith))

-- the text of a number is a number, with this value
pub decimal-IsNumber : (n : ℕ) → n < 2 ^ 64 → IsNumber (decimal n) × (digits_value 10 (decimal n) ≡ n)
decimal-IsNumber n small =
    elim (cases_eq n 0) [
      | inl e ↦ (
        record { digits = (decimal_is_IsNumeral n small).0; leading = λ zero_first. length-of_zero n e },
        (decimal_is_IsNumeral n small).1,
      )
      | inr ne ↦ (
        record {
          digits = (decimal_is_IsNumeral n small).0;
          leading = λ zero_first. absurd (omega (arith, first_decimal n (omega arith) small));
        },
        (decimal_is_IsNumeral n small).1,
      )
    ]

-- digits lack every byte that is no digit
AllDigits-Lacks : (byte : ℕ) → IsOutOfRange 48 57 byte → (ds : List ℕ) → AllDigits 10 ds → Lacks byte ds
AllDigits-Lacks byte out [] h = tt
AllDigits-Lacks byte out (d ∷ ds) h = (λ e. not_digit d (subst (IsOutOfRange 48 57) (sym e) out) h.0, AllDigits-Lacks byte out ds h.1)

pub IsNumber-Lacks : (byte : ℕ) → byte < 48 → (field : List ℕ) → IsNumber field → Lacks byte field
IsNumber-Lacks byte low field h = AllDigits-Lacks byte (inl low) field h.digits.1

-- a number in decimal is read as its value
pub number_says : (limit n : ℕ) → n ≤ limit → limit < 2 ^ 32 → Says (number limit) (decimal n) n
number_says limit n le small =
    let h = decimal-IsNumber n (omega arith) in
    (h.0, omega (arith, h.1))

pub decimal_lacks : (byte n : ℕ) → byte < 48 → n < 2 ^ 64 → Lacks byte (decimal n)
decimal_lacks byte n low small = IsNumber-Lacks byte low (decimal n) (decimal-IsNumber n small).0
