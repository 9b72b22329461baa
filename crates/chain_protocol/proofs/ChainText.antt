-- The canonical layout of the chain is its text.
use Rattle.std.proofs.Common.{◌≡◌, ◌+◌, ◌-◌, ℕ, zero, suc, List, [], ◌∷◌, ◌++◌, map, refl, sym, ap, ◌∙◌, arith, append_assoc, append-nil}
use Rattle.std.specs.Prelude.{codes, decimal}
use Rattle.std.specs.List.{flat_map, range_with_len}
use Rattle.std.proofs.lemmas.Fmt.{decimal_digit}
use Rattle.std.proofs.lemmas.Grind.{flat_map-append}
use Rattle.protocol_syntax.specs.Spacing.{spaced}
use Rattle.protocol_layout.specs.Layout.{line, names_words, section_words, row_words, rule_words, layout}
use Rattle.protocol_model.proofs.ForCallers.{range_with_len_push}
use Rattle.chain_protocol.specs.Chain.{joined, letter, next_letter, rule_line, protocol_line, chain_text}
use Rattle.chain_protocol.specs.Meaning.{named, chain_section, chain_init, chain_rule, chain_bad, chain}

-- texts that are joined are those of a range, one behind the other
joined_range : (text : ℕ → List ℕ) (count : ℕ) → flat_map text (range_with_len 0 count) ≡ joined text count
joined_range text zero = refl
joined_range text (suc count) =
    let last : 0 + count ≡ count = omega arith in
    ap (flat_map text) (range_with_len_push 0 count)
    ∙ (flat_map-append text (range_with_len 0 count) ((0 + count) ∷ [])
    ∙ (ap (λ (t : List ℕ). t ++ (text (0 + count) ++ [])) (joined_range text count)
    ∙ (ap (λ (t : List ℕ). joined text count ++ t) (append-nil (text (0 + count)))
    ∙ ap (λ (n : ℕ). joined text count ++ text n) last)))

-- the words of letters, of `dead` and of the brace behind them
letters_said : (a n : ℕ) → flat_map spaced (names_words (map (λ i. named (letter i)) (range_with_len a n) ++ named (codes "dead") ∷ []) ++ codes "}" ∷ [])
    ≡ flat_map next_letter (range_with_len a n) ++ codes " dead }"
letters_said a zero = refl
letters_said a (suc n) =
    ap (λ (t : List ℕ). next_letter a ++ t) (letters_said (a + 1) n)
    ∙ sym (append_assoc (next_letter a) (flat_map next_letter (range_with_len (a + 1) n)) (codes " dead }"))

section_said : (number : ℕ) → line (section_words (chain_section number))
    ≡ protocol_line (codes "array P {" ++ (joined next_letter number ++ codes " dead }"))
section_said number =
    let said = letters_said 0 number ∙ ap (λ (t : List ℕ). t ++ codes " dead }") (joined_range next_letter number) in
    ap (λ (t : List ℕ). protocol_line (codes "array P {" ++ t)) said

init_said : line (row_words (codes "init") chain_init) ≡ protocol_line (codes "init { P: s0 s0*; }")
init_said = let zero_digit : decimal 0 ≡ 48 ∷ [] = decimal_digit 0 (omega arith) in rw zero_digit refl

rule_said : (i : ℕ) → line (rule_words (chain_rule i)) ≡ rule_line i
rule_said i = refl

rules_said : (a n : ℕ) → flat_map line (map rule_words (map chain_rule (range_with_len a n))) ≡ flat_map rule_line (range_with_len a n)
rules_said a zero = refl
rules_said a (suc n) =
    ap (λ (t : List ℕ). t ++ flat_map line (map rule_words (map chain_rule (range_with_len (a + 1) n)))) (rule_said a)
    ∙ ap (λ (t : List ℕ). rule_line a ++ t) (rules_said (a + 1) n)

-- the lines of the rules and of the bad row
end_said : (count : ℕ) → flat_map line (map rule_words (map chain_rule (range_with_len 0 count)) ++ row_words (codes "bad") chain_bad ∷ [])
    ≡ joined rule_line count ++ protocol_line (codes "bad { P: any* dead any*; }")
end_said count =
    flat_map-append line (map rule_words (map chain_rule (range_with_len 0 count))) (row_words (codes "bad") chain_bad ∷ [])
    ∙ ap (λ (t : List ℕ). t ++ protocol_line (codes "bad { P: any* dead any*; }")) (rules_said 0 count ∙ joined_range rule_line count)

pub layout_is_text : (number : ℕ) → layout (chain number) ≡ chain_text number
layout_is_text number =
    let head = codes "protocol chain" in
    let rest = flat_map line (map rule_words (map chain_rule (range_with_len 0 (number - 1))) ++ row_words (codes "bad") chain_bad ∷ []) in
    ap (λ (t : List ℕ). protocol_line head ++ (t ++ (line (row_words (codes "init") chain_init) ++ rest))) (section_said number)
    ∙ ap (λ (t : List ℕ). protocol_line head ++ (protocol_line (codes "array P {" ++ (joined next_letter number ++ codes " dead }")) ++ t))
    (ap (λ (t : List ℕ). t ++ rest) init_said ∙ ap (λ (t : List ℕ). protocol_line (codes "init { P: s0 s0*; }") ++ t) (end_said (number - 1)))
