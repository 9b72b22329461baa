-- Each round of splitting tells states apart by words of one letter more.
use Rattle.std.proofs.Common.{◌≡◌, ◌<◌, ◌≤◌, ◌+◌, ◌-◌, ℕ, zero, suc, List, [], ◌∷◌, Some, length, replicate, slice_index, sym, ap, subst, ◌∙◌, inl, inr, arith}
use Rattle.std.proofs.lemmas.List.{length-replicate}
use Rattle.std.proofs.lemmas.Option.{slice_get-get_or, same_Some}
use Rattle.std.specs.List.{filter_map}
use Rattle.word_automata.specs.Path.{edges_of, is_accepting}
use Rattle.word_automata.specs.Automaton.{Automaton, accepts_from, IsValid}
use Rattle.exploration.specs.DeterministicSystem.{look_up}
use Rattle.minimise.specs.Signatures.{Signature}
use Rattle.minimise.specs.Refinement.{live_class, live_edge, signature_of, IsSplit}
use Rattle.minimise.proofs.ForCallers.{edges_differ, next_state, accepts_from-next, look_up-live_edges, live_edges-increasing}
use Rattle.minimise.proofs.ForCallers.{live_class-same, index-zeros}
use Rattle.abstraction.specs.FirstStates.{AreFirsts}
use Rattle.abstraction.specs.Merging.{AreClasses}
use Rattle.abstraction.specs.Bounds.{up_to}
use Rattle.abstraction.proofs.ForCallers.{first_same}
use Rattle.future_abstraction.specs.Futures.{is_related}

-- each word of less than k letters is accepted from both states or from neither
abbrev pub AgreeBelow : Automaton → ℕ → ℕ → ℕ → Type 0
AgreeBelow m k p q = (w : List ℕ) → length w < k → accepts_from m p w ≡ accepts_from m q w

-- states are in one class exactly where they agree on words of less than k letters
pub record HasClassesBelow (m : Automaton) (k : ℕ) (classes : List ℕ) : Type 0 where
  pub count : length classes ≡ length m.states
  pub agree : (p q : ℕ) → slice_index classes p ≡ slice_index classes q → AgreeBelow m k p q
  pub same : (p q : ℕ) → AgreeBelow m k p q → slice_index classes p ≡ slice_index classes q

-- all states agree on no word at all
pub zeros_below : (m : Automaton) (classes : List ℕ) → classes ≡ replicate (length m.states) 0 → HasClassesBelow m 0 classes
zeros_below m classes e = record {
  count = ap length e ∙ length-replicate (length m.states) 0;
  agree = λ p q same w l. absurd (omega arith);
  same = λ p q agree. zero_at p ∙ sym (zero_at q);
}
  where
    zero_at : (p : ℕ) → slice_index classes p ≡ 0
    zero_at p = ap (λ xs. slice_index xs p) e ∙ index-zeros (length m.states) p

module _ (m : Automaton) (valid : IsValid m) (classes : List ℕ) (k : ℕ) (has : HasClassesBelow m k classes) where
  agree_more : (p q : ℕ) → signature_of m classes p ≡ signature_of m classes q → AgreeBelow m (suc k) p q
  agree_more p q e [] l = ap (λ (s : Signature). s.accepting) e
  agree_more p q e (a ∷ w) l =
      let less : length w < k = omega arith in
      accepts_from-next m p a w
      ∙ has.agree (next_state m p a) (next_state m q a) (live_class-same (slice_index classes (next_state m p a)) (slice_index classes (next_state m q a))
      (sym (look_up-live_edges m valid classes has.count p a) ∙ ap (λ (s : Signature). look_up s.edges a) e ∙ look_up-live_edges m valid classes has.count q a)) w less
      ∙ sym (accepts_from-next m q a w)

  next_same : (p q : ℕ) → AgreeBelow m (suc k) p q → (a : ℕ) → slice_index classes (next_state m p a) ≡ slice_index classes (next_state m q a)
  next_same p q agree a =
      has.same (next_state m p a) (next_state m q a) (λ w l. sym (accepts_from-next m p a w) ∙ agree (a ∷ w) (omega arith) ∙ accepts_from-next m q a w)

  edges_same : (p q : ℕ) → AgreeBelow m (suc k) p q → filter_map (live_edge classes) (edges_of m.states p) ≡ filter_map (live_edge classes) (edges_of m.states q)
  edges_same p q agree = elim (edges_differ (filter_map (live_edge classes) (edges_of m.states p)) (filter_map (live_edge classes) (edges_of m.states q))
      (live_edges-increasing m valid classes has.count p) (live_edges-increasing m valid classes has.count q)) [
        | inl e ↦ e
        | inr differ ↦
            absurd (differ.1 (look_up-live_edges m valid classes has.count p differ.0 ∙ ap live_class (next_same p q agree differ.0)
            ∙ sym (look_up-live_edges m valid classes has.count q differ.0)))
      ]

  signature_same : (p q : ℕ) → AgreeBelow m (suc k) p q → signature_of m classes p ≡ signature_of m classes q
  signature_same p q agree =
      let class : slice_index classes p ≡ slice_index classes q = has.same p q (λ w l. agree w (omega arith)) in
      let accepting : is_accepting m.states p ≡ is_accepting m.states q = agree [] (omega arith) in
      let edges = edges_same p q agree in
      λ i. record { class = class i; accepting = accepting i; edges = edges i }

  pub split_below : (finer : List ℕ) → IsSplit m classes finer → HasClassesBelow m (suc k) finer
  split_below finer split = record {
    count = split.count;
    agree = λ p q e. agree_more p q (split.apart p q e);
    same = λ p q agree. split.together p q (signature_same p q agree);
  }

-- where a round changes nothing, no later one does
stays_below : (m : Automaton) → IsValid m → (classes : List ℕ) (k d : ℕ) → HasClassesBelow m k classes → IsSplit m classes classes → HasClassesBelow m (d + k) classes
stays_below m valid classes k zero has split =
    let e : k ≡ 0 + k = omega arith in
    subst (λ j. HasClassesBelow m j classes) e has
stays_below m valid classes k (suc d) has split =
    let e : suc (d + k) ≡ suc d + k = omega arith in
    subst (λ j. HasClassesBelow m j classes) e (split_below m valid classes (d + k) (stays_below m valid classes k d has split) classes split)

pub stable_below : (m : Automaton) → IsValid m → (classes : List ℕ) (k n : ℕ) → k ≤ n → HasClassesBelow m k classes → IsSplit m classes classes → HasClassesBelow m n classes
stable_below m valid classes k n l has split =
    let e : (n - k) + k ≡ n = omega arith in
    subst (λ j. HasClassesBelow m j classes) e (stays_below m valid classes k (n - k) has split)

-- classes by words of less than one letter more than the bound are those of the relation
pub are_classes : (m : Automaton) (bound : ℕ) (classes : List ℕ) → HasClassesBelow m (suc bound) classes → AreClasses (is_related (up_to bound) m) (length m.states) classes
are_classes m bound classes has = record {
  count = has.count;
  related = λ p q l r.
      let c = has.count in
      let at_p = slice_get-get_or classes p 0 (omega arith) in
      let at_q = slice_get-get_or classes q 0 (omega arith) in (
        λ e w short. has.agree p q (same_Some (slice_index classes p) (slice_index classes q) (sym at_p ∙ e ∙ at_q)) w (omega arith),
        λ agree. at_p ∙ ap (λ (c : ℕ). Some c) (has.same p q (λ w less. agree w (omega arith))) ∙ sym at_q,
      );
}

-- the first states of classes are classes of the same relation
pub first_classes : (R : ℕ → ℕ → Type 0) (n : ℕ) (classes firsts : List ℕ) → AreClasses R n classes → AreFirsts classes firsts → AreClasses R n firsts
first_classes R n classes firsts are is = record {
  count = is.count ∙ are.count;
  related = λ p q l r.
      let all = are.count in
      let each = is.count in
      let same = first_same classes firsts is p q (omega arith) (omega arith) in
      let at_p = slice_get-get_or firsts p 0 (omega arith) in
      let at_q = slice_get-get_or firsts q 0 (omega arith) in (
        λ e. (are.related p q l r).0 (same.0 (same_Some (slice_index firsts p) (slice_index firsts q) (sym at_p ∙ e ∙ at_q))),
        λ related. at_p ∙ ap (λ (c : ℕ). Some c) (same.1 ((are.related p q l r).1 related)) ∙ sym at_q,
      );
}
