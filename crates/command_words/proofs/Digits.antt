-- Numbers of few digits.
use Rattle.std.proofs.Common.{◌≡◌, ◌<◌, ◌&&◌, ◌==◌, ℕ, true, false, true≢false, List, [], ◌∷◌, Result, Ok, length, nat_lt, refl, ap, sym, ◌∙◌, arith, rules}
use Rattle.std.specs.List.{list_all}
use Rattle.std.specs.Char.{is_ascii_digit}
use Rattle.std.specs.Str.{all_ascii_digits}
use Rattle.std.specs.Str.Parse.{ParsesUnsigned}
use Rattle.std.proofs.lemmas.Bool.{and_parts, ltb-true, lt-ltb}
use Rattle.std.proofs.lemmas.Str.Parse.{IsNumeralModel, numerals_by_fold, parse_gives, digits_value_short}
use Rattle.command_words.specs.Words.{number_after, is_number}

pub all_digits : (word : List ℕ) → list_all is_ascii_digit word ≡ all_ascii_digits word
all_digits [] = refl
all_digits (b ∷ word) = ap (λ rest. is_ascii_digit b && rest) (all_digits word)

own : IsNumeralModel (λ ds. all_ascii_digits ds ≡ true) (number_after 0)
own = numerals_by_fold _ (search rules) number_after (search rules)

pub parsed : {E : Type 0} (word : List ℕ) (r : Result ℕ E) → ParsesUnsigned 32 10 word r → is_number word ≡ true → r ≡ Ok (number_after 0 word)
parsed word r h number =
    let some = and_parts (nat_lt 0 (length word)) _ number in
    let few = and_parts (nat_lt (length word) 8) _ some.1 in
    let low = ltb-true 0 (length word) some.0 in
    let high = ltb-true (length word) 8 few.0 in
    parse_gives own 32 word r h few.1 low (omega (arith, digits_value_short own word 7 few.1 (omega (arith, high))))

-- a word of some bytes, seven at most, is a number where they are digits
pub is_number-by : (word : List ℕ) → 0 < length word → length word < 8 → list_all is_ascii_digit word ≡ is_number word
is_number-by word some few =
    all_digits word
    ∙ sym (ap (λ b. b && (nat_lt (length word) 8 && all_ascii_digits word)) (lt-ltb 0 (length word) some)
    ∙ ap (λ b. b && all_ascii_digits word) (lt-ltb (length word) 8 few))

pub some_byte : (word : List ℕ) → (length word == 0) ≡ false → 0 < length word
some_byte [] h = absurd (true≢false h)
some_byte (b ∷ word) h = omega arith
