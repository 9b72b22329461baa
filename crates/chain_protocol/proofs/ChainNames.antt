-- The names of the chain are names, and those of two letters or of two rules differ.
use Rattle.std.proofs.Common.{◌≡◌, ◌<◌, ◌≤◌, ℕ, true, false, List, [], ◌∷◌, None, drop, refl, ap, arith}
use Rattle.std.specs.Prelude.{decimal, codes, nat_eq}
use Rattle.std.specs.Int.{IsInRange}
use Rattle.std.specs.List.{list_all}
use Rattle.std.specs.Str.{bytes_eq}
use Rattle.std.specs.Str.Parse.{AllDigits}
use Rattle.std.proofs.lemmas.Bool.{and_from, false_from_ne_true}
use Rattle.std.proofs.lemmas.Bool.Decides.{nat_tests}
use Rattle.std.proofs.lemmas.Fmt.{decimal_is_IsNumeral, decimal_injective, length-decimal-le}
use Rattle.std.proofs.lemmas.Slice.Eq.{bytes_eq-Decides}
use Rattle.std.proofs.lemmas.Str.Parse.{digit_from_value}
use Rattle.protocol_lexer.specs.Piece.{is_word_byte}
use Rattle.forms.specs.Symbol.{keyword_of}
use Rattle.forms.proofs.ForCallers.{IsName}
use Rattle.chain_protocol.specs.Chain.{letter}
use Rattle.chain_protocol.specs.Meaning.{named}

word_digit : (d : ℕ) → IsInRange 48 57 d → is_word_byte d ≡ true
word_digit d (low, high) = grind (arith, nat_tests)

word_digits : (ds : List ℕ) → AllDigits 10 ds → list_all is_word_byte ds ≡ true
word_digits [] h = refl
word_digits (d ∷ ds) h = and_from (is_word_byte d) (list_all is_word_byte ds) (word_digit d (digit_from_value d h.0)) (word_digits ds h.1)

no_digit : (b d : ℕ) → d < b → nat_eq b d ≡ false
no_digit b d below = grind (arith, nat_tests)

-- no reserved word is an `s` or an `r` with digits behind it
letter_is_free : (ds : List ℕ) → AllDigits 10 ds → keyword_of (115 ∷ ds) ≡ None
unfolding keyword_of
letter_is_free [] h = refl
letter_is_free (d ∷ ds) h =
    let digit = digit_from_value d h.0 in
    let e : nat_eq 101 d ≡ false = no_digit 101 d (omega (arith, digit.1)) in
    let o : nat_eq 111 d ≡ false = no_digit 111 d (omega (arith, digit.1)) in
    let p : nat_eq 112 d ≡ false = no_digit 112 d (omega (arith, digit.1)) in
    let t : nat_eq 116 d ≡ false = no_digit 116 d (omega (arith, digit.1)) in
    simp (e, o, p, t)

rule_is_free : (ds : List ℕ) → AllDigits 10 ds → keyword_of (114 ∷ ds) ≡ None
unfolding keyword_of
rule_is_free [] h = refl
rule_is_free (d ∷ ds) h =
    let digit = digit_from_value d h.0 in
    let e : nat_eq 101 d ≡ false = no_digit 101 d (omega (arith, digit.1)) in
    let i : nat_eq 105 d ≡ false = no_digit 105 d (omega (arith, digit.1)) in
    let u : nat_eq 117 d ≡ false = no_digit 117 d (omega (arith, digit.1)) in
    simp (e, i, u)

numbered : (first n : ℕ) → is_word_byte first ≡ true → n ≤ 255 → keyword_of (first ∷ decimal n) ≡ None → IsName (named (first ∷ decimal n))
numbered first n word small free = record {
  free = free;
  some = omega arith;
  bytes = and_from (is_word_byte first) (list_all is_word_byte (decimal n)) word (word_digits (decimal n) (decimal_is_IsNumeral n (omega arith)).0.1);
  short = omega (arith, length-decimal-le 3 n (omega arith) (omega arith) (omega arith));
}

pub letter_is_name : (i : ℕ) → i ≤ 255 → IsName (named (letter i))
letter_is_name i small = numbered 115 i refl small (letter_is_free (decimal i) (decimal_is_IsNumeral i (omega arith)).0.1)

pub rule_is_name : (i : ℕ) → i ≤ 255 → IsName (named (114 ∷ decimal i))
rule_is_name i small = numbered 114 i refl small (rule_is_free (decimal i) (decimal_is_IsNumeral i (omega arith)).0.1)

pub chain_is_name : IsName (named (codes "chain"))
unfolding keyword_of
chain_is_name = record { free = refl; some = omega arith; bytes = refl; short = omega arith }

pub section_is_name : IsName (named (codes "P"))
unfolding keyword_of
section_is_name = record { free = refl; some = omega arith; bytes = refl; short = omega arith }

pub dead_is_name : IsName (named (codes "dead"))
unfolding keyword_of
dead_is_name = record { free = refl; some = omega arith; bytes = refl; short = omega arith }

-- names with one first byte and different numbers differ
pub numbered_apart : (first m n : ℕ) → m ≤ 255 → n < m → bytes_eq (first ∷ decimal m) (first ∷ decimal n) ≡ false
numbered_apart first m n small below =
    false_from_ne_true (bytes_eq (first ∷ decimal m) (first ∷ decimal n))
    (λ same.
    let digits = ap (drop 1) ((bytes_eq-Decides (first ∷ decimal m) (first ∷ decimal n)).0 same) in
    omega (arith, decimal_injective m n (omega arith) (omega arith) digits))
