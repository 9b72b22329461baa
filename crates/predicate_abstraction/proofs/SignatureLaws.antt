-- Two states that share a word share a short one, so states are related by predicates exactly where their signatures are equal.
use Rattle.std.specs.Prelude.{◌≡◌, ◌⊎◌, ◌<◌, ◌≤◌, ◌+◌, ◌*◌, ◌++◌, ◌&&◌, ℕ, zero, suc, Bool, true}
use Rattle.std.specs.Prelude.{false, nat_eq, List, [], ◌∷◌, IsTrue, Contains, map, take, length, get_or}
use Rattle.std.specs.List.{IsDistinct, flat_map, list_any, range_with_len, sum_by}
use Rattle.std.proofs.Common.{refl, sym, ap, subst, ◌∙◌, inl, inr, arith}
use Rattle.std.proofs.lemmas.Bool.{cases_Bool, and_parts, and_from, or_cases, true≢false, false≢true, eqb-true}
use Rattle.std.proofs.Math.Nat.{mul_comm}
use Rattle.std.proofs.lemmas.Nat.{mul-add-lt, same_from_place}
use Rattle.std.proofs.lemmas.List.{length-append, same_lists}
use Rattle.std.proofs.lemmas.List.Concat.{get_or-flat_map}
use Rattle.std.proofs.lemmas.List.Folds.{list_any_at}
use Rattle.std.proofs.lemmas.List.Sums.{sum_by-cons}
use Rattle.std.proofs.lemmas.List.FromFn.{length-map-range_with_len, get_or-map-range_with_len}
use Rattle.word_automata.proofs.ForCallers.{Contains-here, Contains-there, accepting_within, leads_within}
use Rattle.std.proofs.lemmas.Map.Steps.{length-le_from_distinct_below}
use Rattle.word_automata.specs.Automaton.{Automaton, accepts_from}
use Rattle.abstraction.specs.BoundedWords.{words_up_to}
use Rattle.abstraction.proofs.ForCallers.{distinct_more, some_passes, contains_accepted}
use Rattle.predicate_abstraction.specs.Signatures.{shares_word, TestsSharedWords, RelatedBySignature}
use Rattle.predicate_abstraction.specs.PredicateLaws.{accepts_first, accepts_along}

module _ (a b : Automaton) where
  -- the number of a pair of states
  pair : ℕ → ℕ → ℕ
  pair p s = p * length b.states + s

  abbrev AreBoth : ℕ → ℕ → List ℕ → Type 0
  AreBoth p s w = IsTrue (accepts_from a p w) × IsTrue (accepts_from b s w)

  -- different pairs of states, as many as the word and one more, from each of which a word that is no longer is accepted
  record Visits (w : List ℕ) : Type 0 where
    pairs : List ℕ
    count : length pairs ≡ suc (length w)
    distinct : IsDistinct nat_eq pairs
    each : (c : ℕ) → list_any (nat_eq c) pairs ≡ true
        → (q : ℕ) × (t : ℕ) × (u : List ℕ) × (c ≡ pair q t) × (length u ≤ length w) × AreBoth q t u

  within_both : (q t : ℕ) (u : List ℕ) → AreBoth q t u → (q < length a.states) × (t < length b.states)
  within_both q t [] both = (accepting_within a.states q both.0, accepting_within b.states t both.1)
  within_both q t (letter ∷ u) both =
      let first = accepts_first a q letter u both.0 in
      let other = accepts_first b t letter u both.1 in
      (leads_within a q letter first.0 first.1, leads_within b t letter other.0 other.1)

  -- a word that both accept visits a pair twice, and then a shorter one does, or it visits different pairs
  shorter_or_distinct : (w : List ℕ) (p s : ℕ) → AreBoth p s w → ((u : List ℕ) × (length u < length w) × AreBoth p s u) ⊎ Visits w
  unfolding pair IsDistinct
  shorter_or_distinct [] p s both = inr (record {
    pairs = pair p s ∷ [];
    count = refl;
    distinct = distinct_more (pair p s) [] (λ none. false≢true none) tt;
    each = λ c among. elim (or_cases (nat_eq c (pair p s)) false among) [
      | inl here ↦ (p, s, [], eqb-true c (pair p s) here, omega arith, both)
      | inr there ↦ absurd (true≢false (sym there))
    ];
  })
  shorter_or_distinct (letter ∷ w) p s both =
      let first = accepts_first a p letter w both.0 in
      let other = accepts_first b s letter w both.1 in
      elim (shorter_or_distinct w first.0 other.0 (first.2, other.2)) [
        | inl less ↦ inl (
          letter ∷ less.0,
          (let shorter = less.1 in omega arith),
          (accepts_along a p letter first.0 less.0 first.1 less.2.0, accepts_along b s letter other.0 less.0 other.1 less.2.1),
        )
        | inr visits ↦ elim (cases_Bool (list_any (nat_eq (pair p s)) visits.pairs)) [
          | inl again ↦
              let (q, t, u, same, short, accepted) = visits.each (pair p s) again in
              let here = same_from_place p s q t (length b.states) (within_both p s (letter ∷ w) both).1 (within_both q t u accepted).1 same in
              let first_moved = subst (λ x. IsTrue (accepts_from a x u)) (sym here.0) accepted.0 in
              let second_moved = subst (λ x. IsTrue (accepts_from b x u)) (sym here.1) accepted.1 in
              inl (u, omega (arith, short), (first_moved, second_moved))
          | inr new ↦ inr (record {
            pairs = pair p s ∷ visits.pairs;
            count = ap suc visits.count;
            distinct = distinct_more (pair p s) visits.pairs (λ again. true≢false (sym again ∙ new)) visits.distinct;
            each = λ c among. elim (or_cases (nat_eq c (pair p s)) (list_any (nat_eq c) visits.pairs) among) [
              | inl here ↦ (p, s, letter ∷ w, eqb-true c (pair p s) here, omega arith, both)
              | inr there ↦ let (q, t, u, same, short, accepted) = visits.each c there in (q, t, u, same, omega (arith, short), accepted)
            ];
          })
        ]
      ]

  -- so some word that both accept has no more letters than there are pairs
  abbrev SharesShortWord : ℕ → ℕ → Type 0
  SharesShortWord p s = (u : List ℕ) × (length u ≤ length a.states * length b.states) × AreBoth p s u

  short_or_shorter : (w : List ℕ) (p s : ℕ) → AreBoth p s w → ((u : List ℕ) → length u < length w → AreBoth p s u → SharesShortWord p s) → SharesShortWord p s
  unfolding pair
  short_or_shorter w p s both later = elim (shorter_or_distinct w p s both) [
    | inl less ↦ later less.0 less.1 less.2
    | inr visits ↦
        let few = length-le_from_distinct_below visits.pairs (length b.states * length a.states) visits.distinct (λ c among.
        let (q, t, u, same, short, accepted) = visits.each c among in
        let within = within_both q t u accepted in
        subst (λ x. x < length b.states * length a.states) (sym same) (mul-add-lt q (length b.states) t (length a.states) within.0 within.1)) in
        let count = visits.count in
        let turned = mul_comm (length b.states) (length a.states) in
        (w, omega arith, both)
  ]

  short_word : (n : ℕ) (w : List ℕ) (p s : ℕ) → length w ≤ n → AreBoth p s w → SharesShortWord p s
  short_word zero w p s bound both = short_or_shorter w p s both (λ u shorter accepted. absurd (omega arith))
  short_word (suc n) w p s bound both = short_or_shorter w p s both (λ u shorter accepted. short_word n u p s (omega arith) accepted)

-- the test of a shared word is right
pub shares_word_tells : TestsSharedWords
shares_word_tells a valid p b s = (
  λ is. let found = some_passes (λ w. accepts_from a p w && accepts_from b s w) words is in
      let both = and_parts (accepts_from a p found.0) (accepts_from b s found.0) found.1 in (found.0, both.0, both.1),
  λ shared.
      let short = short_word a b (length shared.0) shared.0 p s (omega arith) (shared.1, shared.2) in
      let there = contains_accepted a valid (length a.states * length b.states) short.0 p short.1 short.2.0 in
      list_any_at (λ w. accepts_from a p w && accepts_from b s w) words there.0 short.0 there.1
      (ap (λ w. accepts_from a p w && accepts_from b s w) there.2 ∙ and_from (accepts_from a p short.0) (accepts_from b s short.0) short.2.0 short.2.1),
)
  where
    words : List (List ℕ)
    words = words_up_to a.letters (length a.states * length b.states)

pub same_test : (x y : Bool) → ((x ≡ true) → y ≡ true) → ((y ≡ true) → x ≡ true) → x ≡ y
same_test true y to from = sym (to refl)
same_test false true to from = from refl
same_test false false to from = refl

-- a value for each state of each of the automata
abbrev values : (Automaton → ℕ → Bool) → List Automaton → List Bool
values test bs = flat_map (λ (b : Automaton). map (test b) (range_with_len 0 (length b.states))) bs

length-values : (test : Automaton → ℕ → Bool) (bs : List Automaton) → length (values test bs) ≡ sum_by (λ (b : Automaton). length b.states) bs
length-values test [] = refl
length-values test (b ∷ bs) =
    length-append (map (test b) (range_with_len 0 (length b.states))) (values test bs)
    ∙ ap (λ n. n + length (values test bs)) (length-map-range_with_len (test b) 0 (length b.states))
    ∙ ap (λ n. length b.states + n) (length-values test bs)
    ∙ sym (sum_by-cons (λ (b : Automaton). length b.states) b bs)

same_values : (test other : Automaton → ℕ → Bool) (bs : List Automaton)
    → ((b : Automaton) → Contains bs b → (s : ℕ) → s < length b.states → test b s ≡ other b s)
    → values test bs ≡ values other bs
same_values test other [] same = refl
same_values test other (b ∷ bs) same =
    let long = length-map-range_with_len (test b) 0 (length b.states) in
    let row : map (test b) (range_with_len 0 (length b.states)) ≡ map (other b) (range_with_len 0 (length b.states)) =
    same_lists (map (test b) (range_with_len 0 (length b.states))) (map (other b) (range_with_len 0 (length b.states)))
    (long ∙ sym (length-map-range_with_len (other b) 0 (length b.states))) (λ k d within.
    let below : k < length b.states = omega (arith, long) in
    get_or-map-range_with_len (test b) 0 (length b.states) k k d below (omega arith) ∙ same b (Contains-here bs b) k below
    ∙ sym (get_or-map-range_with_len (other b) 0 (length b.states) k k d below (omega arith))) in
    ap (λ l. l ++ values test bs) row
    ∙ ap (λ l. map (other b) (range_with_len 0 (length b.states)) ++ l) (same_values test other bs (λ c there. same c (Contains-there b bs c there)))

value_at : (test : Automaton → ℕ → Bool) (bs : List Automaton) (i : ℕ) (b : Automaton) → i < length bs → get_or bs i b ≡ b → (s : ℕ) → s < length b.states
    → get_or (values test bs) (sum_by (λ (b : Automaton). length b.states) (take i bs) + s) false ≡ test b s
value_at test bs i b within here s below =
    let long = length-map-range_with_len (test b) 0 (length b.states) in
    let row = λ (b : Automaton). map (test b) (range_with_len 0 (length b.states)) in
    ap (λ n. get_or (values test bs) (n + s) false) (sym (length-values test (take i bs)))
    ∙ get_or-flat_map row bs i s b false within (subst (λ (c : Automaton). s < length (row c)) (sym here) (omega (arith, long)))
    ∙ ap (λ (c : Automaton). get_or (row c) s false) here
    ∙ get_or-map-range_with_len (test b) 0 (length b.states) s s false below (omega arith)

pub related_by_signature : RelatedBySignature
related_by_signature key letters = record {
  count = λ a p same. length-values (shares_word a p) key.automata;
  equal = λ a p q valid same. (
    λ related. same_values (shares_word a p) (shares_word a q) key.automata (λ b there s below.
        same_test (shares_word a p b s) (shares_word a q b s)
        (λ h. (shares_word_tells a valid q b s).1 ((related b there s below).0 ((shares_word_tells a valid p b s).0 h)))
        (λ h. (shares_word_tells a valid p b s).1 ((related b there s below).1 ((shares_word_tells a valid q b s).0 h)))),
    λ equal b there s below.
        let test = sym (value_at (shares_word a p) key.automata there.0 b there.1 there.2 s below)
        ∙ ap (λ l. get_or l (sum_by (λ (b : Automaton). length b.states) (take there.0 key.automata) + s) false) equal
        ∙ value_at (shares_word a q) key.automata there.0 b there.1 there.2 s below in (
          λ h. (shares_word_tells a valid q b s).0 (sym test ∙ (shares_word_tells a valid p b s).1 h),
          λ h. (shares_word_tells a valid p b s).0 (test ∙ (shares_word_tells a valid q b s).1 h),
        ),
  );
}
