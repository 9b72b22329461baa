-- Pairs of classes as numbers, and the classes that two lists have in common.
use Rattle.std.proofs.Common.{◌≡◌, ◌<◌, ◌+◌, ◌*◌, ℕ, List, [], ◌∷◌, ◌++◌, Some, length, get_or, sym, ap, subst, ◌∙◌, inl, inr, arith, length-append}
use Rattle.std.proofs.lemmas.Bool.{cases_eq}
use Rattle.std.proofs.lemmas.List.{get_or_append_left, get_or_push}
use Rattle.std.proofs.lemmas.List.Elements.{Contains-append_left, Contains-append_right, Contains-append_cases}
use Rattle.std.proofs.lemmas.Option.{slice_get-get_or, same_Some}
use Rattle.word_automata.specs.Automaton.{Automaton}
use Rattle.abstraction.specs.FirstStates.{AreFirsts}
use Rattle.abstraction.proofs.ForCallers.{first_within, first_same}
use Rattle.abstraction.specs.Partitions.{AreNumbers}
use Rattle.predicate_abstraction.specs.private.Splitting.{AreClassesBy, AreCommon}
use Rattle.predicate_abstraction.proofs.Marks.{place-row, place-column}

-- the places of the pairs of the first numbers of both lists
pub record HasPlaces (a b places : List ℕ) (i : ℕ) : Type 0 where
  pub count : length places ≡ i
  pub at : (p : ℕ) → p < i → get_or places p 0 ≡ get_or a p 0 * length a + get_or b p 0

pub places_more : (a b places : List ℕ) (i place : ℕ) → place ≡ get_or a i 0 * length a + get_or b i 0 → HasPlaces a b places i → HasPlaces a b (places ++ place ∷ []) (i + 1)
places_more a b places i place is before = record {
  count = (let l = length-append places (place ∷ []) in let c = before.count in omega arith);
  at = λ p below. elim (cases_eq p i) [
    | inl same ↦ subst (λ q. get_or (places ++ place ∷ []) q 0 ≡ get_or a q 0 * length a + get_or b q 0) (sym same) (get_or_push places place 0 i before.count ∙ is)
    | inr other ↦ get_or_append_left places (place ∷ []) 0 p (let c = before.count in omega arith) ∙ before.at p (omega arith)
  ];
}

-- the first states of pairs are the classes that both lists have in common
pub common_all : (a b places both : List ℕ) → HasPlaces a b places (length a) → AreNumbers (length a) a → AreNumbers (length a) b → AreFirsts places both
    → AreCommon a b both
common_all a b places both has small_a small_b are = record {
  numbers = record {
    count = are.count ∙ long;
    below = λ p there. subst (λ n. get_or both p 0 < n) long (first_within places both are p (let l = long in omega arith));
  };
  apart = λ p q lp lq.
      let same = first_same places both are p q (let l = long in omega arith) (let l = long in omega arith) in
      let at_p = slice_get-get_or places p 0 (let l = long in omega arith) in
      let at_q = slice_get-get_or places q 0 (let l = long in omega arith) in
      let place_p = has.at p lp in
      let place_q = has.at q lq in (
        λ e.
            let equal : get_or a p 0 * n + get_or b p 0 ≡ get_or a q 0 * n + get_or b q 0 =
            sym place_p ∙ same_Some (get_or places p 0) (get_or places q 0) (sym at_p ∙ same.0 e ∙ at_q) ∙ place_q in (
              place-row n (get_or a q 0) (get_or b q 0) (get_or a p 0) (get_or b p 0) (small_b.below q lq) (small_b.below p lp) equal,
              place-column n (get_or a q 0) (get_or b q 0) (get_or a p 0) (get_or b p 0) (small_b.below q lq) (small_b.below p lp) equal,
            ),
        λ pair.
            let equal : get_or places p 0 ≡ get_or places q 0 =
            place_p ∙ ap (λ x. x * n + get_or b p 0) pair.0 ∙ ap (λ y. get_or a q 0 * n + y) pair.1 ∙ sym place_q in
            same.1 (at_p ∙ ap (λ (x : ℕ). Some x) equal ∙ sym at_q),
      );
}
  where
    n : ℕ
    n = length a

    long : length places ≡ length a
    long = has.count

-- the classes that the automata of two lists have in common are those of both lists of automata
pub classes_by_both : (first rest : List Automaton) (a : Automaton) (x y both : List ℕ) → AreClassesBy first a x → AreClassesBy rest a y → AreCommon x y both
    → AreClassesBy (first ++ rest) a both
classes_by_both first rest a x y both by_first by_rest common = record {
  numbers = subst (λ n. AreNumbers n both) by_first.numbers.count common.numbers;
  apart = λ p q lp lq.
      let alike = common.apart p q (let c = by_first.numbers.count in omega arith) (let c = by_first.numbers.count in omega arith) in
      let one = by_first.apart p q lp lq in
      let other = by_rest.apart p q lp lq in (
        λ e b there s within. elim (Contains-append_cases first rest b there) [
          | inl left ↦ one.0 (alike.0 e).0 b left s within
          | inr right ↦ other.0 (alike.0 e).1 b right s within
        ],
        λ meet. alike.1 (
          one.1 (λ b there. meet b (Contains-append_left first rest b there)),
          other.1 (λ b there. meet b (Contains-append_right first rest b there)),
        ),
      );
}
