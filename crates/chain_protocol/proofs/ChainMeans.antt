-- The chain is within the limits: some tokens may say it.
use Rattle.std.proofs.Common.{◌≡◌, ◌≤◌, ◌+◌, ◌-◌, ℕ, zero, suc, false, List, [], ◌∷◌, ◌++◌, length, map, refl, inl, inr, arith, nat_le, length-append}
use Rattle.std.specs.Prelude.{codes, decimal}
use Rattle.std.specs.List.{range_with_len, AllByRecursion}
use Rattle.std.proofs.lemmas.Bool.{lt-leb}
use Rattle.std.proofs.lemmas.List.FromFn.{length-map-range_with_len}
use Rattle.forms.specs.declared.fault.What.{What}
use Rattle.forms.specs.declared.fault.What.TheVariants as Limits
use Rattle.forms.specs.declared.name.Name.{Name}
use Rattle.forms.specs.declared.symbol.Keyword.TheVariants as Words
use Rattle.forms.specs.Grammar.{Grammar, name, up_to}
use Rattle.forms.proofs.ForCallers.{MayMean, AllAfter, IsName}
use Rattle.protocol_syntax.specs.declared.protocol.BaseText.TheVariants.{Letter, Any}
use Rattle.protocol_syntax.specs.declared.protocol.Kind.TheVariants.{Array}
use Rattle.protocol_syntax.specs.declared.protocol.Many.TheVariants.{One, Star}
use Rattle.protocol_syntax.specs.declared.protocol.Move.TheVariants.{At}
use Rattle.protocol_syntax.specs.declared.protocol.PartText.{PartText}
use Rattle.protocol_syntax.specs.Grammar.{common_kind, kind, section, more_sections, letter_base, base, count, atom, atoms, pattern, part, row_body, row, at_move, common_move, any_move, step, rule, protocol}
use Rattle.chain_protocol.specs.Chain.{letter}
use Rattle.chain_protocol.specs.Meaning.{named, chain_letters, chain_section, chain_init, chain_bad, chain_rule, chain}
use Rattle.chain_protocol.specs.Meaning as chain
use Rattle.chain_protocol.proofs.ChainNames.{letter_is_name, rule_is_name, chain_is_name, section_is_name, dead_is_name}

-- items that may be meant, and are within their limit
items_mean : {A : Type 0} (limit : ℕ) (x : Grammar A) (values before : List A) → AllByRecursion (MayMean x) values → length before + length values ≤ limit
    → AllAfter (λ b a. (nat_le limit (length b) ≡ false) × MayMean x a) before values
items_mean limit x [] before all fit = tt
items_mean limit x (a ∷ values) before all fit = (
  (lt-leb limit (length before) (omega arith), all.0),
  items_mean limit x values (before ++ a ∷ []) all.1 (omega (arith, length-append before (a ∷ []))),
)

up_to_means : {A : Type 0} (limit : ℕ) (what : What) (x : Grammar A) (values : List A) → AllByRecursion (MayMean x) values → length values ≤ limit
    → MayMean (up_to limit what x) values
unfolding up_to
up_to_means limit what x values all fit = items_mean limit x values [] all (omega (arith, fit))

letters_mean : (a n : ℕ) → a + n ≤ 255 → AllByRecursion IsName (map (λ i. named (letter i)) (range_with_len a n) ++ named (codes "dead") ∷ [])
letters_mean a zero small = (dead_is_name, tt)
letters_mean a (suc n) small = (letter_is_name a (omega arith), letters_mean (a + 1) n (omega arith))

length-letters : (a n : ℕ) → length (map (λ i. named (letter i)) (range_with_len a n) ++ named (codes "dead") ∷ []) ≡ n + 1
length-letters a n =
    let letters = map (λ i. named (letter i)) (range_with_len a n) in
    omega (arith, length-append letters (named (codes "dead") ∷ []), length-map-range_with_len (λ i. named (letter i)) a n)

section_means : (n : ℕ) → suc n ≤ 255 → MayMean (section 1 0) (chain_section (suc n))
unfolding section kind common_kind
section_means n small =
    let rest = map (λ i. named (letter i)) (range_with_len 1 n) ++ named (codes "dead") ∷ [] in
    let others = up_to_means 255 Limits.Letters name rest (letters_mean 1 n (omega arith)) (omega (arith, length-letters 1 n)) in (
      Array,
      inl (inr (inl (tt, tt, refl))),
      (named (codes "P"), section_is_name, (tt, tt, (named (letter 0), (refl, letter_is_name 0 (omega arith)), (rest, others, (tt, tt, refl))))),
    )

letter_means : (n : Name) → IsName n → MayMean base (Letter n)
unfolding base letter_base
letter_means n is = inl (n, is, refl)

any_means : MayMean base Any
unfolding base
any_means = inr (inl (tt, tt, refl))

init_means : MayMean (row Words.Init) chain_init
unfolding row row_body part pattern atoms atom count
init_means =
    let first = letter_means (named (letter 0)) (letter_is_name 0 (omega arith)) in
    let rest = chain.atom (Letter (named (letter 0))) Star ∷ [] in
    let more = up_to_means 31 Limits.Atoms atom rest ((Letter (named (letter 0)), first, (Star, inr (inl (tt, tt, refl)), refl)), tt) (omega arith) in
    let every = chain.atom (Letter (named (letter 0))) One ∷ rest in
    let pattern_is : MayMean pattern every =
    inr (chain.atom (Letter (named (letter 0))) One, (Letter (named (letter 0)), first, (One, inl refl, refl)), (rest, more, refl)) in
    let one : PartText = record { section = named (codes "P"); atoms = every } in
    (tt, tt, (tt, tt, (one ∷ [], ((named (codes "P"), section_is_name, (tt, tt, (every, pattern_is, (tt, tt, refl)))), tt), (tt, tt, refl))))

bad_means : MayMean (row Words.Bad) chain_bad
unfolding row row_body part pattern atoms atom count
bad_means =
    let dead = named (codes "dead") in
    let any = chain.atom Any Star in
    let any_is : MayMean atom any = (Any, any_means, (Star, inr (inl (tt, tt, refl)), refl)) in
    let rest = chain.atom (Letter dead) One ∷ any ∷ [] in
    let more = up_to_means 31 Limits.Atoms atom rest ((Letter dead, letter_means dead dead_is_name, (One, inl refl, refl)), (any_is, tt)) (omega arith) in
    let pattern_is : MayMean pattern (any ∷ rest) = inr (any, any_is, (rest, more, refl)) in
    let one : PartText = record { section = named (codes "P"); atoms = any ∷ rest } in
    (tt, tt, (tt, tt, (one ∷ [], ((named (codes "P"), section_is_name, (tt, tt, (any ∷ rest, pattern_is, (tt, tt, refl)))), tt), (tt, tt, refl))))

move_means : (i : ℕ) → i + 1 ≤ 255 → MayMean (any_move 1) (At (named (letter i)) (named (letter (i + 1))) [] [])
unfolding any_move common_move at_move up_to
move_means i small =
    let from = named (letter i) in
    let to = named (letter (i + 1)) in
    inr (inl (tt, tt, (from, letter_is_name i (omega arith), (tt, tt, (to, letter_is_name (i + 1) small, ([], tt, ([], inl refl, refl)))))))

rule_means : (i : ℕ) → i + 1 ≤ 255 → MayMean (rule 1) (chain_rule i)
unfolding rule step
rule_means i small =
    let body = At (named (letter i)) (named (letter (i + 1))) [] [] in
    let step_is : MayMean (step 1) (record { section = named (codes "P"); body = body }) =
    (named (codes "P"), section_is_name, (tt, tt, (body, move_means i small, (tt, tt, refl)))) in
    (tt, tt, (named (codes "r" ++ decimal (i + 1)), rule_is_name (i + 1) small, (tt, tt, (record { section = named (codes "P"); body = body } ∷ [], (step_is, tt), (tt, tt, refl)))))

rules_mean : (a n : ℕ) → a + n ≤ 255 → AllByRecursion (MayMean (rule 1)) (map chain_rule (range_with_len a n))
rules_mean a zero small = tt
rules_mean a (suc n) small = (rule_means a (omega arith), rules_mean (a + 1) n (omega arith))

pub chain_means : (number : ℕ) → 1 ≤ number → number ≤ 255 → MayMean protocol (chain number)
unfolding protocol more_sections
chain_means zero some small = absurd (omega arith)
chain_means (suc n) some small =
    let rules = map chain_rule (range_with_len 0 (suc n - 1)) in
    let few = length-map-range_with_len chain_rule 0 (suc n - 1) in
    let init_is = up_to_means 32 Limits.InitRows (row Words.Init) (chain_init ∷ []) (init_means, tt) (omega arith) in
    let rules_are = up_to_means 256 Limits.Rules (rule 1) rules (rules_mean 0 (suc n - 1) (omega arith)) (omega (arith, few)) in
    let bad_is = up_to_means 32 Limits.BadRows (row Words.Bad) (chain_bad ∷ []) (bad_means, tt) (omega arith) in (
      tt,
      tt,
      (
        named (codes "chain"),
        chain_is_name,
        (
          1,
          inl refl,
          (
            chain_section (suc n),
            section_means n small,
            ([], tt, (chain_init ∷ [], init_is, (rules, rules_are, (chain_bad ∷ [], bad_is, refl)))),
          ),
        ),
      ),
    )
