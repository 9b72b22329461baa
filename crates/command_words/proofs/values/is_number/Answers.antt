use Rattle.std.proofs.Common.{◌≡◌, ◌∙◌, ℕ, List, subst, sym, arith}
use Rattle.command_words.specs.Words.{is_number}
use Rattle.command_words.proofs.Digits.{is_number-by, some_byte}
use Rattle.command_words.proofs.values.is_number.Goals as goal

pub returns : goal.returns
returns c =
    let bytes = c.as_bytes-bytes.result.now in
    let some = some_byte bytes (sym c.is_empty.ensures ∙ c.if-is_empty.false) in
    let few = c.if-bytes-gt-MOST_DIGITS.false in
    let whole = c.are_digits.ensures ∙ is_number-by bytes some (omega (arith, few)) in
    subst (λ (word : List ℕ). c.are_digits.result ≡ is_number word) c.as_bytes-bytes.ensures.value whole
