-- The classes of states by the sets of states into which words lead.
use Rattle.std.proofs.Common.{◌≡◌, ◌<◌, ◌≤◌, ◌↔◌, ℕ, List, Some, length, get_or, sym, ap, subst, ◌∙◌, arith}
use Rattle.std.proofs.lemmas.Option.{slice_get-get_or, same_Some}
use Rattle.word_automata.specs.Automaton.{Automaton}
use Rattle.abstraction.specs.Bounds.{up_to}
use Rattle.abstraction.specs.Merging.{AreClasses}
use Rattle.abstraction.specs.Partitions.{IsNumbering}
use Rattle.past_abstraction.specs.Pasts.{IsInPast, is_related}
use Rattle.past_abstraction.specs.private.WordSets.{AreInSame, AreBlocksOf, AreWordSets}

module _ (a : Automaton) (sets : List (List ℕ)) (blocks classes : List ℕ) (bound words first : ℕ) (are : AreBlocksOf a sets blocks) (numbering : IsNumbering blocks classes)
    (has : AreWordSets a words first sets) (fewer : words ≤ bound) where
  abbrev R : ℕ → ℕ → Type 0
  R = is_related (up_to bound) a

  -- related states are in the same sets, and so in one class
  in_same : (p q : ℕ) → R p q → AreInSame sets p q
  in_same p q related set there =
      let of = has.words set there in
      let same = related of.0 (let short = of.1 in omega arith) in
      (λ in_set. (of.2 q).1 (same.0 ((of.2 p).0 in_set)), λ in_set. (of.2 p).1 (same.1 ((of.2 q).0 in_set)))

  classes_same : (p q : ℕ) → p < length a.states → q < length a.states → (get_or classes p 0 ≡ get_or classes q 0) ↔ AreInSame sets p q
  classes_same p q lp lq =
      let count = are.count in
      let same = numbering.same p q (omega arith) (omega arith) in
      let apart = are.apart p q lp lq in
      (λ e. apart.0 (same.0 e), λ in_sets. same.1 (apart.1 in_sets))

  by_index : ((p q : ℕ) → p < length a.states → q < length a.states → get_or classes p 0 ≡ get_or classes q 0 → R p q) → AreClasses R (length a.states) classes
  by_index found = record {
    count = numbering.numbers.count ∙ are.count;
    related = λ p q lp lq.
        let count = numbering.numbers.count ∙ are.count in
        let at_p = slice_get-get_or classes p 0 (omega arith) in
        let at_q = slice_get-get_or classes q 0 (omega arith) in (
          λ e. found p q lp lq (same_Some (get_or classes p 0) (get_or classes q 0) (sym at_p ∙ e ∙ at_q)),
          λ related. at_p ∙ ap (λ (c : ℕ). Some c) ((classes_same p q lp lq).1 (in_same p q related)) ∙ sym at_q,
        );
  }

  -- where there are sets of all words that are short enough
  pub classes_by_sets : bound ≤ words → AreClasses R (length a.states) classes
  classes_by_sets all = by_index (λ p q lp lq e w short. (leads p q lp lq e w short, leads q p lq lp (sym e) w short))
    where
      leads : (p q : ℕ) → p < length a.states → q < length a.states → get_or classes p 0 ≡ get_or classes q 0 → (w : List ℕ) → length w ≤ bound → IsInPast a w p → IsInPast a w q
      leads p q lp lq e w short into =
          let there = has.sets_of_words w p (omega arith) into in
          let same = (classes_same p q lp lq).0 e there.0 there.1 in
          (there.2 q).0 (same.0 ((there.2 p).1 into))

  -- where each state is alone in its class
  pub classes_alone : ((p : ℕ) → p < length classes → get_or classes p 0 ≡ p) → AreClasses R (length a.states) classes
  classes_alone alone = by_index (λ p q lp lq e.
      let count = numbering.numbers.count ∙ are.count in
      let here : p ≡ q = sym (alone p (omega arith)) ∙ e ∙ alone q (omega arith) in
      subst (R p) here (λ w short. (λ h. h, λ h. h)))
