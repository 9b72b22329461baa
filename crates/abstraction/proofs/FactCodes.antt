-- The facts of an automaton as a number: one bit for each possible fact.
use Rattle.std.proofs.Common.{◌≡◌, ◌<◌, ◌+◌, ◌*◌, ◌^◌, ◌↔◌, ◌&&◌, ◌++◌, ℕ, zero, suc, Bool, true, false, nat_lt, if◌then◌else◌}
use Rattle.std.proofs.Common.{List, [], ◌∷◌, Option, None, Some, Contains, map, length, refl, sym, ap, subst, ◌∙◌, arith}
use Rattle.std.proofs.Math.Nat.{pow-succ', mul_comm, mul_assoc}
use Rattle.std.specs.Bool.{beq}
use Rattle.std.specs.Cmp.Lexicographic.{pointwise, pointwise_decides}
use Rattle.std.specs.List.{flat_map, list_any, range_with_len}
use Rattle.std.proofs.lemmas.Bool.{and_parts, and_from, false≢true}
use Rattle.std.proofs.lemmas.Bool.Decides.{nat_tests}
use Rattle.std.proofs.lemmas.List.{length-append, length-map}
use Rattle.std.proofs.lemmas.List.Elements.{Contains-append_left, Contains-append_right}
use Rattle.std.proofs.lemmas.List.Folds.{list_any_at}
use Rattle.std.proofs.lemmas.List.FromFn.{length-range_with_len}
use Rattle.minimise.specs.SignatureLaws.{beq-decides}
use Rattle.word_automata.specs.Path.{is_accepting}
use Rattle.word_automata.specs.Automaton.{Automaton, target, IsValid}
use Rattle.word_automata.proofs.ForCallers.{Contains-map, accepting_within, leads_within}
use Rattle.abstraction.specs.Signatures.{Fact, starts, accepts, leads, HasFact, HaveSameFacts, fact_count, width}
use Rattle.abstraction.proofs.ListMembers.{contains_joined, contains_number, some_passes, same_at}
use Rattle.abstraction.proofs.BoundedWordLemmas.{leads_by_letter}

-- truth values as a number
number : List Bool → ℕ
number [] = 0
number (b ∷ bs) = (if b then 1 else 0) + 2 * number bs

number-below : (bs : List Bool) → number bs < 2 ^ length bs
unfolding number
number-below [] = omega arith
number-below (true ∷ bs) = let rest = number-below bs in let double = pow-succ' 2 (length bs) in omega arith
number-below (false ∷ bs) = let rest = number-below bs in let double = pow-succ' 2 (length bs) in omega arith

number-injective : (bs cs : List Bool) → length bs ≡ length cs → number bs ≡ number cs → bs ≡ cs
unfolding number
number-injective [] [] long same = refl
number-injective [] (c ∷ cs) long same = absurd (omega arith)
number-injective (b ∷ bs) [] long same = absurd (omega arith)
number-injective (true ∷ bs) (true ∷ cs) long same = ap (λ l. true ∷ l) (number-injective bs cs (omega arith) (omega arith))
number-injective (true ∷ bs) (false ∷ cs) long same = absurd (omega arith)
number-injective (false ∷ bs) (true ∷ cs) long same = absurd (omega arith)
number-injective (false ∷ bs) (false ∷ cs) long same = ap (λ l. false ∷ l) (number-injective bs cs (omega arith) (omega arith))

-- all lists of so many truth values
abbrev truth_lists : ℕ → List (List Bool)
truth_lists zero = [] ∷ []
truth_lists (suc n) = map (λ bs. true ∷ bs) (truth_lists n) ++ map (λ bs. false ∷ bs) (truth_lists n)

length-truth_lists : (n : ℕ) → length (truth_lists n) ≡ 2 ^ n
length-truth_lists zero = refl
length-truth_lists (suc n) =
    let half = length-truth_lists n in
    let with_true = length-map (truth_lists n) (λ bs. true ∷ bs) in
    let with_false = length-map (truth_lists n) (λ bs. false ∷ bs) in
    let both = length-append (map (λ bs. true ∷ bs) (truth_lists n)) (map (λ bs. false ∷ bs) (truth_lists n)) in
    let double = pow-succ' 2 n in omega arith

contains_truth_list : (n : ℕ) (bs : List Bool) → length bs ≡ n → Contains (truth_lists n) bs
contains_truth_list zero [] long = (0, omega arith, refl)
contains_truth_list zero (b ∷ bs) long = absurd (omega arith)
contains_truth_list (suc n) [] long = absurd (omega arith)
contains_truth_list (suc n) (true ∷ bs) long =
    Contains-append_left (map (λ l. true ∷ l) (truth_lists n)) (map (λ l. false ∷ l) (truth_lists n)) (true ∷ bs)
    (Contains-map (λ l. true ∷ l) (truth_lists n) bs (contains_truth_list n bs (omega arith)))
contains_truth_list (suc n) (false ∷ bs) long =
    Contains-append_right (map (λ l. true ∷ l) (truth_lists n)) (map (λ l. false ∷ l) (truth_lists n)) (false ∷ bs)
    (Contains-map (λ l. false ∷ l) (truth_lists n) bs (contains_truth_list n bs (omega arith)))

-- the possible facts over so many letters, with signatures of so many truth values
abbrev leading_facts : ℕ → List (List Bool) → List Bool → List Fact
leading_facts letters signatures s = flat_map (λ letter. map (λ t. leads s letter t) signatures) (range_with_len 0 letters)

abbrev possible_facts : ℕ → List (List Bool) → List Fact
possible_facts letters signatures = map starts signatures ++ (map accepts signatures ++ flat_map (leading_facts letters signatures) signatures)

length-joined : {X Y : Type 0} (f : X → List Y) (k : ℕ) → ((x : X) → length (f x) ≡ k) → (xs : List X) → length (flat_map f xs) ≡ length xs * k
length-joined f k each [] = omega arith
length-joined f k each (x ∷ xs) =
    length-append (f x) (flat_map f xs) ∙ ap (λ n. n + length (flat_map f xs)) (each x)
    ∙ ap (λ n. k + n) (length-joined f k each xs) ∙ step (length xs)
  where
    step : (n : ℕ) → k + n * k ≡ suc n * k
    step n = grind (arith)

length-possible_facts : (letters : ℕ) (signatures : List (List Bool)) → length (possible_facts letters signatures) ≡ fact_count letters (length signatures)
length-possible_facts letters signatures =
    let c = length signatures in
    let one = λ (s : List Bool) (letter : ℕ). length-map signatures (λ t. leads s letter t) in
    let row = λ (s : List Bool). length-joined (λ letter. map (λ t. leads s letter t) signatures) c (one s) (range_with_len 0 letters)
    ∙ ap (λ n. n * c) (length-range_with_len 0 letters) in
    let all = length-joined (leading_facts letters signatures) (letters * c) row signatures in
    let turned : c * (letters * c) ≡ c * c * letters = ap (λ n. c * n) (mul_comm letters c) ∙ sym (mul_assoc c c letters) in
    let first = length-append (map starts signatures) (map accepts signatures ++ flat_map (leading_facts letters signatures) signatures) in
    let second = length-append (map accepts signatures) (flat_map (leading_facts letters signatures) signatures) in
    let starting = length-map signatures starts in
    let accepting = length-map signatures accepts in
    omega arith

contains_fact : (letters tests : ℕ) (signature : ℕ → List Bool) (a : Automaton) → IsValid a → a.letters ≡ letters → ((p : ℕ) → length (signature p) ≡ tests)
    → (fact : Fact) → HasFact signature a fact → Contains (possible_facts letters (truth_lists tests)) fact
contains_fact letters tests signature a valid over long (starts s) has =
    let signatures = truth_lists tests in
    Contains-append_left (map starts signatures) (map accepts signatures ++ flat_map (leading_facts letters signatures) signatures) (starts s)
    (Contains-map starts signatures s (contains_truth_list tests s (ap length (sym has.1) ∙ long 0)))
contains_fact letters tests signature a valid over long (accepts s) has =
    let signatures = truth_lists tests in
    Contains-append_right (map starts signatures) (map accepts signatures ++ flat_map (leading_facts letters signatures) signatures) (accepts s)
    (Contains-append_left (map accepts signatures) (flat_map (leading_facts letters signatures) signatures) (accepts s)
    (Contains-map accepts signatures s (contains_truth_list tests s (ap length (sym has.2) ∙ long has.0))))
contains_fact letters tests signature a valid over long (leads s letter t) has =
    let signatures = truth_lists tests in
    let within : letter < letters = subst (λ n. letter < n) over (leads_by_letter a valid has.0 letter has.1 has.2) in
    let target_is = contains_truth_list tests t (ap length (sym has.4) ∙ long has.1) in
    let source_is = contains_truth_list tests s (ap length (sym has.3) ∙ long has.0) in
    let row = contains_joined (λ l. map (λ u. leads s l u) signatures) (range_with_len 0 letters) letter (leads s letter t)
    (contains_number letters letter within)
    (Contains-map (λ u. leads s letter u) signatures t target_is) in
    Contains-append_right (map starts signatures) (map accepts signatures ++ flat_map (leading_facts letters signatures) signatures) (leads s letter t)
    (Contains-append_right (map accepts signatures) (flat_map (leading_facts letters signatures) signatures) (leads s letter t)
    (contains_joined (leading_facts letters signatures) signatures s (leads s letter t) source_is row))

-- whether an automaton has a fact
same_values : List Bool → List Bool → Bool
same_values s t = pointwise beq s t

same_values-are : (s t : List Bool) → same_values s t ≡ true → s ≡ t
unfolding same_values
same_values-are s t = (pointwise_decides beq-decides s t).0

same_values-of : (s t : List Bool) → s ≡ t → same_values s t ≡ true
unfolding same_values
same_values-of s t = (pointwise_decides beq-decides s t).1

module _ (signature : ℕ → List Bool) (a : Automaton) where
  accepts_as : List Bool → ℕ → Bool
  accepts_as s p = is_accepting a.states p && same_values (signature p) s

  leads_to_as : List Bool → List Bool → ℕ → Option ℕ → Bool
  leads_to_as s t p None = false
  leads_to_as s t p (Some r) = same_values (signature p) s && same_values (signature r) t

  leads_as : List Bool → ℕ → List Bool → ℕ → Bool
  leads_as s letter t p = leads_to_as s t p (target a p letter)

  has_fact : Fact → Bool
  has_fact (starts s) = nat_lt 0 (length a.states) && same_values (signature 0) s
  has_fact (accepts s) = list_any (accepts_as s) (range_with_len 0 (length a.states))
  has_fact (leads s letter t) = list_any (leads_as s letter t) (range_with_len 0 (length a.states))

  some_state : (test : ℕ → Bool) (n p : ℕ) → p < n → test p ≡ true → list_any test (range_with_len 0 n) ≡ true
  some_state test n p below passes =
      let there = contains_number n p below in
      list_any_at test (range_with_len 0 n) there.0 p there.1 (ap test there.2 ∙ passes)

  leads_parts : (s t : List Bool) (p : ℕ) (to : Option ℕ) → leads_to_as s t p to ≡ true → (r : ℕ) × (to ≡ Some r) × (signature p ≡ s) × (signature r ≡ t)
  unfolding leads_to_as
  leads_parts s t p None h = absurd (false≢true h)
  leads_parts s t p (Some r) h =
      let both = and_parts (same_values (signature p) s) (same_values (signature r) t) h in
      (r, refl, same_values-are (signature p) s both.0, same_values-are (signature r) t both.1)

  leads_whole : (s t : List Bool) (p r : ℕ) (to : Option ℕ) → to ≡ Some r → signature p ≡ s → signature r ≡ t → leads_to_as s t p to ≡ true
  unfolding leads_to_as
  leads_whole s t p r to is source end =
      ap (leads_to_as s t p) is
      ∙ and_from (same_values (signature p) s) (same_values (signature r) t) (same_values-of (signature p) s source) (same_values-of (signature r) t end)

  has_fact-tells : (fact : Fact) → (has_fact fact ≡ true) ↔ HasFact signature a fact
  unfolding has_fact accepts_as leads_as
  has_fact-tells (starts s) = (
    λ h. let both = and_parts (nat_lt 0 (length a.states)) (same_values (signature 0) s) h in
        (grind (arith, nat_tests), same_values-are (signature 0) s both.1),
    λ has. and_from (nat_lt 0 (length a.states)) (same_values (signature 0) s) (let some = has.0 in grind (arith, nat_tests))
        (same_values-of (signature 0) s has.1),
  )
  has_fact-tells (accepts s) = (
    λ h. let found = some_passes (accepts_as s) (range_with_len 0 (length a.states)) h in
        let both = and_parts (is_accepting a.states found.0) (same_values (signature found.0) s) found.1 in
        (found.0, both.0, same_values-are (signature found.0) s both.1),
    λ has. some_state (accepts_as s) (length a.states) has.0 (accepting_within a.states has.0 has.1)
        (and_from (is_accepting a.states has.0) (same_values (signature has.0) s) has.1 (same_values-of (signature has.0) s has.2)),
  )
  has_fact-tells (leads s letter t) = (
    λ h. let found = some_passes (leads_as s letter t) (range_with_len 0 (length a.states)) h in
        let parts = leads_parts s t found.0 (target a found.0 letter) found.1 in (found.0, parts.0, parts.1, parts.2, parts.3),
    λ has. some_state (leads_as s letter t) (length a.states) has.0 (leads_within a has.0 letter has.1 has.2)
        (leads_whole s t has.0 has.1 (target a has.0 letter) has.2 has.3 has.4),
  )

-- the facts of an automaton as a number
pub code : (letters tests : ℕ) → (ℕ → List Bool) → Automaton → ℕ
code letters tests signature a = number (map (has_fact signature a) (possible_facts letters (truth_lists tests)))

pub code-below : (letters tests : ℕ) (signature : ℕ → List Bool) (a : Automaton) → code letters tests signature a < 2 ^ fact_count letters (width tests)
unfolding code
code-below letters tests signature a =
    let facts = possible_facts letters (truth_lists tests) in
    let count = length-map facts (has_fact signature a) ∙ length-possible_facts letters (truth_lists tests)
    ∙ ap (fact_count letters) (length-truth_lists tests) in
    subst (λ n. number (map (has_fact signature a) facts) < 2 ^ n) count (number-below (map (has_fact signature a) facts))

module _ (letters tests : ℕ) (signature other : ℕ → List Bool) (a b : Automaton) (same : code letters tests signature a ≡ code letters tests other b) where
  same_tests : map (has_fact signature a) (possible_facts letters (truth_lists tests)) ≡ map (has_fact other b) (possible_facts letters (truth_lists tests))
  unfolding code
  same_tests =
      let facts = possible_facts letters (truth_lists tests) in
      number-injective (map (has_fact signature a) facts) (map (has_fact other b) facts)
      (length-map facts (has_fact signature a) ∙ sym (length-map facts (has_fact other b))) same

  pub has_also : IsValid a → a.letters ≡ letters → ((p : ℕ) → length (signature p) ≡ tests) → (fact : Fact) → HasFact signature a fact → HasFact other b fact
  has_also valid over long fact has =
      let there = contains_fact letters tests signature a valid over long fact has in
      let test = same_at (has_fact signature a) (has_fact other b) (possible_facts letters (truth_lists tests)) same_tests fact there in
      (has_fact-tells other b fact).0 (sym test ∙ (has_fact-tells signature a fact).1 has)

-- automata with one number have the same facts
pub same_facts : (letters tests : ℕ) (signature other : ℕ → List Bool) (a b : Automaton) → IsValid a → a.letters ≡ letters
    → ((p : ℕ) → length (signature p) ≡ tests)
    → IsValid b → b.letters ≡ letters → ((p : ℕ) → length (other p) ≡ tests) → code letters tests signature a ≡ code letters tests other b
    → HaveSameFacts signature a other b
same_facts letters tests signature other a b valid over long valid_b over_b long_b same fact = (
  has_also letters tests signature other a b same valid over long fact,
  has_also letters tests other signature b a (sym same) valid_b over_b long_b fact,
)
