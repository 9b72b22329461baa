-- The chain has no fault: its letters and rules have names of their own, and its rules and rows name letters that it has.
use Rattle.std.proofs.Common.{◌≡◌, ◌<◌, ◌≤◌, ◌+◌, ◌-◌, ℕ, zero, suc, Bool, true, false, List, [], ◌∷◌, ◌++◌, Option, None, Some, map, refl, sym, subst, ◌∙◌, inl, inr, arith, append_assoc, append-nil}
use Rattle.std.specs.Prelude.{codes, decimal}
use Rattle.std.specs.List.{range_with_len, list_any}
use Rattle.std.specs.Str.{bytes_eq}
use Rattle.std.proofs.lemmas.Bool.{cases_eq, or_left, or_right, or_from, cond-true, cond-false}
use Rattle.std.proofs.lemmas.List.Folds.{list_any-append}
use Rattle.std.proofs.lemmas.List.FromFn.{map-range_with_len_more}
use Rattle.std.proofs.lemmas.Slice.Eq.{bytes_eq-Decides}
use Rattle.forms.specs.declared.name.Name.{Name}
use Rattle.protocol_syntax.specs.declared.protocol.RuleText.{RuleText}
use Rattle.protocol_model.specs.declared.fault.ModelFault.{ModelFault}
use Rattle.protocol_model.specs.declared.fault.ModelFault.TheVariants.{Duplicate, Unknown}
use Rattle.protocol_model.specs.Numbering.{texts_of}
use Rattle.protocol_model.specs.Faults.{first_fault_of, is_among, duplicate, unknown, section_fault, row_fault, step_fault, rule_fault, first_fault}
use Rattle.protocol_model.proofs.ForCallers.{none_first, none_second, or_none, list_any_map}
use Rattle.chain_protocol.specs.Chain.{letter}
use Rattle.chain_protocol.specs.Meaning.{named, chain_letters, chain_section, chain_init, chain_bad, chain_rule, chain}
use Rattle.chain_protocol.proofs.ChainNames.{numbered_apart}

-- lists that are made from a function of the index
module _ {X : Type 0} (f : ℕ → X) where
  range_has : (p : X → Bool) (more : List X) (i a n : ℕ) → a ≤ i → i < a + n → p (f i) ≡ true → list_any p (map f (range_with_len a n) ++ more) ≡ true
  range_has p more i a zero low high is = absurd (omega arith)
  range_has p more i a (suc n) low high is = elim (cases_eq a i) [
    | inl e ↦ or_left (p (f a)) (list_any p (map f (range_with_len (a + 1) n) ++ more)) (subst (λ (j : ℕ). p (f j) ≡ true) (sym e) is)
    | inr ne ↦ or_right (p (f a)) (list_any p (map f (range_with_len (a + 1) n) ++ more))
        (range_has p more i (a + 1) n (omega (arith, low, ne)) (omega (arith, high)) is)
  ]

  range_lacks : (p : X → Bool) (a n : ℕ) → ((i : ℕ) → i < a + n → p (f i) ≡ false) → list_any p (map f (range_with_len a n)) ≡ false
  range_lacks p a zero none = refl
  range_lacks p a (suc n) none =
      or_from (p (f a)) (list_any p (map f (range_with_len (a + 1) n))) (none a (omega arith))
      (range_lacks p (a + 1) n (λ i below. none i (omega (arith, below))))

  -- each has no fault with those before it
  range_faultless : (fault : List X → X → Option ModelFault) (a n : ℕ) → ((i : ℕ) → i < a + n → fault (map f (range_with_len 0 i)) (f i) ≡ None)
      → first_fault_of fault (map f (range_with_len 0 a)) (map f (range_with_len a n)) ≡ None
  range_faultless fault a zero each = refl
  range_faultless fault a (suc n) each =
      let earlier = map f (range_with_len 0 a) in
      let later = map f (range_with_len (a + 1) n) in
      let more : map f (range_with_len 0 (a + 1)) ≡ earlier ++ f a ∷ [] = map-range_with_len_more f 0 a a (omega arith) in
      or_none (fault earlier (f a)) (first_fault_of fault (earlier ++ f a ∷ []) later) (each a (omega arith))
      (subst (λ (before : List X). first_fault_of fault before later ≡ None) more
      (range_faultless fault (a + 1) n (λ i below. each i (omega (arith, below)))))

-- some items, and more behind them
faultless_append : {X : Type 0} (fault : List X → X → Option ModelFault) (earlier xs ys : List X) → first_fault_of fault earlier xs ≡ None
    → first_fault_of fault (earlier ++ xs) ys ≡ None → first_fault_of fault earlier (xs ++ ys) ≡ None
faultless_append {X} fault earlier [] ys h g = subst (λ (before : List X). first_fault_of fault before ys ≡ None) (append-nil earlier) g
faultless_append {X} fault earlier (x ∷ xs) ys h g =
    let now = earlier ++ x ∷ [] in
    or_none (fault earlier x) (first_fault_of fault now (xs ++ ys)) (none_first (fault earlier x) (first_fault_of fault now xs) h)
    (faultless_append fault now xs ys (none_second (fault earlier x) (first_fault_of fault now xs) h)
    (subst (λ (before : List X). first_fault_of fault before ys ≡ None) (sym (append_assoc earlier (x ∷ []) xs)) g))

abbrev named_letter : ℕ → Name
named_letter i = named (letter i)

abbrev dead : Name
dead = named (codes "dead")

abbrev letters : ℕ → List (List ℕ)
letters number = texts_of (chain_letters number)

letter_known : (number i : ℕ) → i < number → unknown (letters number) (named_letter i) ≡ None
letter_known number i below =
    let here : bytes_eq (letter i) (letter i) ≡ true = (bytes_eq-Decides (letter i) (letter i)).1 refl in
    let found : is_among (letters number) (named_letter i) ≡ true =
    list_any_map (bytes_eq (letter i)) (λ (n : Name). n.text) (chain_letters number)
    ∙ range_has named_letter (λ n. bytes_eq (letter i) n.text) (dead ∷ []) i 0 number (omega arith) (omega (arith, below)) here in
    cond-true (is_among (letters number) (named_letter i)) None (Some (Unknown (named_letter i))) found

dead_known : (number : ℕ) → unknown (letters number) dead ≡ None
dead_known number =
    let p = λ (n : Name). bytes_eq (codes "dead") n.text in
    let first = map named_letter (range_with_len 0 number) in
    let found : is_among (letters number) dead ≡ true =
    list_any_map (bytes_eq (codes "dead")) (λ (n : Name). n.text) (chain_letters number)
    ∙ (list_any-append p first (dead ∷ []) ∙ or_right (list_any p first) (list_any p (dead ∷ [])) refl) in
    cond-true (is_among (letters number) dead) None (Some (Unknown dead)) found

abbrev letter_fault : List Name → Name → Option ModelFault
letter_fault before n = duplicate (texts_of before) n

letter_fresh : (i : ℕ) → i ≤ 255 → letter_fault (map named_letter (range_with_len 0 i)) (named_letter i) ≡ None
letter_fresh i small =
    let before = map named_letter (range_with_len 0 i) in
    let lacks : is_among (texts_of before) (named_letter i) ≡ false =
    list_any_map (bytes_eq (letter i)) (λ (n : Name). n.text) before
    ∙ range_lacks named_letter (λ n. bytes_eq (letter i) n.text) 0 i (λ j below. numbered_apart 115 i j small (omega (arith, below))) in
    cond-false (is_among (texts_of before) (named_letter i)) (Some (Duplicate (named_letter i))) None lacks

dead_fresh : (number : ℕ) → letter_fault (map named_letter (range_with_len 0 number)) dead ≡ None
dead_fresh number =
    let before = map named_letter (range_with_len 0 number) in
    let lacks : is_among (texts_of before) dead ≡ false =
    list_any_map (bytes_eq (codes "dead")) (λ (n : Name). n.text) before
    ∙ range_lacks named_letter (λ n. bytes_eq (codes "dead") n.text) 0 number (λ j below. refl) in
    cond-false (is_among (texts_of before) dead) (Some (Duplicate dead)) None lacks

section_faultless : (number : ℕ) → number ≤ 255 → section_fault [] (chain_section number) ≡ None
section_faultless number small =
    let first = map named_letter (range_with_len 0 number) in
    faultless_append letter_fault [] first (dead ∷ [])
    (range_faultless named_letter letter_fault 0 number (λ i below. letter_fresh i (omega (arith, below))))
    (or_none (letter_fault first dead) None (dead_fresh number) refl)

init_faultless : (number : ℕ) → 1 ≤ number → row_fault (chain_section number ∷ []) chain_init ≡ None
init_faultless number some = rw (letter_known number 0 (omega (arith, some))) refl

bad_faultless : (number : ℕ) → row_fault (chain_section number ∷ []) chain_bad ≡ None
bad_faultless number = rw (dead_known number) refl

move_faultless : (number i : ℕ) → i + 1 < number → first_fault_of (step_fault (chain_section number ∷ [])) [] (chain_rule i).moves ≡ None
move_faultless number i below = rw (letter_known number i (omega (arith, below)), letter_known number (i + 1) below) refl

rule_fresh : (i : ℕ) → i < 255 → duplicate (map (λ before. before.name.text) (map chain_rule (range_with_len 0 i))) (chain_rule i).name ≡ None
rule_fresh i small =
    let before = map chain_rule (range_with_len 0 i) in
    let text = codes "r" ++ decimal (i + 1) in
    let lacks : list_any (bytes_eq text) (map (λ (r : RuleText). r.name.text) before) ≡ false =
    list_any_map (bytes_eq text) (λ (r : RuleText). r.name.text) before
    ∙ range_lacks chain_rule (λ r. bytes_eq text r.name.text) 0 i (λ j below. numbered_apart 114 (i + 1) (j + 1) (omega arith) (omega (arith, below))) in
    cond-false (list_any (bytes_eq text) (map (λ (r : RuleText). r.name.text) before)) (Some (Duplicate (chain_rule i).name)) None lacks

rules_faultless : (number : ℕ) → number ≤ 255
    → first_fault_of (rule_fault (chain_section number ∷ [])) [] (map chain_rule (range_with_len 0 (number - 1))) ≡ None
rules_faultless number small =
    range_faultless chain_rule (rule_fault (chain_section number ∷ [])) 0 (number - 1)
    (λ i below. or_none _ _ (rule_fresh i (omega (arith, below, small))) (move_faultless number i (omega (arith, below))))

pub chain_faultless : (number : ℕ) → 1 ≤ number → number ≤ 255 → first_fault (chain number) ≡ None
chain_faultless number some small =
    or_none _ _ (or_none _ None (section_faultless number small) refl) (or_none _ _ (or_none _ None (init_faultless number some) refl)
    (or_none _ _ (rules_faultless number small) (or_none _ None (bad_faultless number) refl)))
