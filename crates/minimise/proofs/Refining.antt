-- Rounds of refinement: different classes stay told apart by words, and at the end each class has one language.
use Rattle.std.proofs.Common.{◌≡◌, ◌-◌, ◌<◌, ◌≤◌, ◌⊎◌, ℕ, zero, suc, Bool, true, false, List, [], ◌∷◌, length, slice_index, refl, sym, ap, ◌∙◌, inl, inr, arith}
use Rattle.std.proofs.lemmas.Bool.{cases_eq, cases_lt, true≢false}
use Rattle.std.proofs.lemmas.List.Sums.{sum_by-cons}
use Rattle.std.specs.List.{filter_map, sum_by}
use Rattle.word_automata.specs.Path.{edges_of, is_accepting}
use Rattle.word_automata.specs.Automaton.{Automaton, accepts_from, IsValid}
use Rattle.exploration.specs.DeterministicSystem.{look_up}
pub use Rattle.exploration.proofs.ForCallers.{index-zeros}
use Rattle.minimise.specs.Signatures.{Signature}
use Rattle.minimise.specs.Refinement.{live_class, live_edge, signature_of, IsSplit, AreGrouped, AreCoarse, AreLanguageClasses}
use Rattle.minimise.specs.private.Rounds.{AreApart, AreToldApart, outgoing, AreAlike}
use Rattle.minimise.proofs.Edges.{edges_differ, next_state, accepts_from-next, class-past, look_up-live_edges, live_edges-increasing, live_class-same}

same_or_not : (x y : Bool) → (x ≡ y) ⊎ (x ≡ y → ⊥)
same_or_not true true = inl refl
same_or_not true false = inr (λ e. true≢false e)
same_or_not false true = inr (λ e. true≢false (sym e))
same_or_not false false = inl refl

-- a sum of what is left below a bound falls where a list grows
rest-le : (n : ℕ) (cs fs : List ℕ) → length cs ≡ length fs → ((q : ℕ) → slice_index cs q ≤ slice_index fs q) → sum_by (λ c. n - c) fs ≤ sum_by (λ c. n - c) cs
rest-le n [] [] l h = omega arith
rest-le n [] (f ∷ fs) l h = cc
rest-le n (c ∷ cs) [] l h = cc
rest-le n (c ∷ cs) (f ∷ fs) l h = let a = rest-le n cs fs (omega arith) (λ q. h (suc q)) in let b : c ≤ f = h 0 in omega (arith, sum_by-cons (λ c. n - c) f fs, sum_by-cons (λ c. n - c) c cs)

falls : (n : ℕ) (cs fs : List ℕ) → length cs ≡ length fs → ((q : ℕ) → slice_index cs q ≤ slice_index fs q) → ((q : ℕ) → slice_index fs q ≤ n) → (fs ≡ cs → ⊥)
    → sum_by (λ c. n - c) fs < sum_by (λ c. n - c) cs
falls n [] [] l h k ne = absurd (ne refl)
falls n [] (f ∷ fs) l h k ne = cc
falls n (c ∷ cs) [] l h k ne = cc
falls n (c ∷ cs) (f ∷ fs) l h k ne =
    let b : c ≤ f = h 0 in
    let d : f ≤ n = k 0 in
    elim (cases_eq f c) [
      | inl same ↦ let a = falls n cs fs (omega arith) (λ q. h (suc q)) (λ q. k (suc q)) (λ e. ne (λ i. same i ∷ e i)) in omega (arith, sum_by-cons (λ c. n - c) f fs, sum_by-cons (λ c. n - c) c cs)
      | inr other ↦ let a = rest-le n cs fs (omega arith) (λ q. h (suc q)) in omega (arith, sum_by-cons (λ c. n - c) f fs, sum_by-cons (λ c. n - c) c cs)
    ]

-- states with different signatures are told apart, where classes tell apart the states that letters lead to
pub outgoing_apart_by : (m : Automaton) → IsValid m → (classes : List ℕ) → length classes ≡ length m.states → (p q : ℕ)
    → ((a : ℕ) → (slice_index classes (next_state m p a) ≡ slice_index classes (next_state m q a) → ⊥) → AreApart m (next_state m p a) (next_state m q a))
    → (outgoing m classes p ≡ outgoing m classes q → ⊥) → AreApart m p q
outgoing_apart_by m valid classes count p q told_apart ne = by_flag (same_or_not (is_accepting m.states p) (is_accepting m.states q))
  where
    by_edges : is_accepting m.states p ≡ is_accepting m.states q
        → (filter_map (live_edge classes) (edges_of m.states p) ≡ filter_map (live_edge classes) (edges_of m.states q))
        ⊎ ((a : ℕ) × (look_up (filter_map (live_edge classes) (edges_of m.states p)) a ≡ look_up (filter_map (live_edge classes) (edges_of m.states q)) a → ⊥))
        → AreApart m p q
    by_edges f (inl e) = absurd (ne (λ i. record { class = 0; accepting = f i; edges = e i }))
    by_edges f (inr (a, differ)) =
        let more = told_apart a
        (λ same. differ (look_up-live_edges m valid classes count p a ∙ ap live_class same ∙ sym (look_up-live_edges m valid classes count q a))) in
        (a ∷ more.0, λ h. more.1 (sym (accepts_from-next m p a more.0) ∙ h ∙ accepts_from-next m q a more.0))

    by_flag : (is_accepting m.states p ≡ is_accepting m.states q) ⊎ (is_accepting m.states p ≡ is_accepting m.states q → ⊥)
        → AreApart m p q
    by_flag (inl f) = by_edges f (edges_differ (filter_map (live_edge classes) (edges_of m.states p)) (filter_map (live_edge classes) (edges_of m.states q))
        (live_edges-increasing m valid classes count p) (live_edges-increasing m valid classes count q))
    by_flag (inr g) = ([], g)

pub outgoing_apart : (m : Automaton) → IsValid m → (classes : List ℕ) → AreToldApart m classes → (p q : ℕ) → (outgoing m classes p ≡ outgoing m classes q → ⊥) → AreApart m p q
outgoing_apart m valid classes apart p q = outgoing_apart_by m valid classes apart.count p q (λ a. apart.told_apart (next_state m p a) (next_state m q a))

module _ (m : Automaton) (valid : IsValid m) (classes finer : List ℕ) (apart : AreToldApart m classes) (split : IsSplit m classes finer) where
  signatures_apart : (p q : ℕ) → (signature_of m classes p ≡ signature_of m classes q → ⊥) → (w : List ℕ) × (accepts_from m p w ≡ accepts_from m q w → ⊥)
  signatures_apart p q ne = elim (cases_eq (slice_index classes p) (slice_index classes q)) [
    | inl c ↦ outgoing_apart m valid classes apart p q
        (λ e. ne (λ i. record { class = c i; accepting = ap (λ (s : Signature). s.accepting) e i; edges = ap (λ (s : Signature). s.edges) e i }))
    | inr d ↦ apart.told_apart p q d
  ]

  pub split_coarse : AreCoarse m finer
  split_coarse = record {
    count = split.count;
    told_apart = λ p q ne. signatures_apart p q (λ e. ne (split.together p q e));
    least = λ q r h. let l = split.least q r h in (l.0, split.together r q l.1 ∙ h);
  }

-- classes that have least states are told apart
pub coarse_apart : (m : Automaton) (classes : List ℕ) → AreCoarse m classes → AreToldApart m classes
coarse_apart m classes coarse = record { count = coarse.count; told_apart = coarse.told_apart }

module _ (m : Automaton) (valid : IsValid m) (classes finer : List ℕ) (coarse : AreCoarse m classes) (split : IsSplit m classes finer) where
  -- a class of a round is at most that of the next
  pub split_le : (q : ℕ) → slice_index classes q ≤ slice_index finer q
  split_le q = by (slice_index finer q) refl
    where
      none : slice_index finer (length m.states) ≡ 0
      none = class-past m valid finer split.count (length m.states) (omega arith)

      least : (r : ℕ) → slice_index classes r ≡ slice_index classes q → (c : ℕ) → slice_index classes q ≡ c → slice_index classes q ≤ suc r
      least r same zero e = omega arith
      least r same (suc k) e = let l = coarse.least r k (same ∙ e) in let b = l.0 in omega arith

      by : (c : ℕ) → slice_index finer q ≡ c → slice_index classes q ≤ slice_index finer q
      by zero e =
          let s = ap (λ (x : Signature). x.class) (split.apart q (length m.states) (e ∙ sym none)) in
          let z = class-past m valid classes coarse.count (length m.states) (omega arith) in omega arith
      by (suc r) e =
          let l = split.least q r e in
          let b = least r (ap (λ (x : Signature). x.class) l.1) (slice_index classes q) refl in omega arith

  split_below : (q : ℕ) → slice_index finer q ≤ length m.states
  split_below q = by (slice_index finer q) refl
    where
      by : (c : ℕ) → slice_index finer q ≡ c → slice_index finer q ≤ length m.states
      by zero e = omega arith
      by (suc r) e =
          let l = split.least q r e in let b = l.0 in
          elim (cases_lt q (length m.states)) [
            | inl there ↦ omega arith
            | inr past ↦ let z = class-past m valid finer split.count q past in omega arith
          ]

  pub split_falls : (finer ≡ classes → ⊥) → sum_by (λ c. length m.states - c) finer < sum_by (λ c. length m.states - c) classes
  split_falls ne = falls (length m.states) classes finer (coarse.count ∙ sym split.count) split_le split_below ne

-- the signatures of a round that changes nothing are those of the classes
pub alike_split : (m : Automaton) (classes : List ℕ) → IsSplit m classes classes → AreAlike m classes
alike_split m classes split p q e =
    let same = split.apart p q e in
    λ i. record { class = 0; accepting = ap (λ (s : Signature). s.accepting) same i; edges = ap (λ (s : Signature). s.edges) same i }

-- where the states of a class have one signature, they accept the same words
pub stable : (m : Automaton) → IsValid m → (classes : List ℕ) → AreCoarse m classes → AreAlike m classes → AreLanguageClasses m classes
stable m valid classes coarse same = record { valid = valid; coarse = coarse; alike = λ p q w h. alike w p q h }
  where
    alike : (w : List ℕ) (p q : ℕ) → slice_index classes p ≡ slice_index classes q → accepts_from m p w ≡ accepts_from m q w
    alike [] p q h = ap (λ (s : Signature). s.accepting) (same p q h)
    alike (a ∷ w) p q h =
        accepts_from-next m p a w
        ∙ alike w (next_state m p a) (next_state m q a) (live_class-same (slice_index classes (next_state m p a)) (slice_index classes (next_state m q a))
        (sym (look_up-live_edges m valid classes coarse.count p a) ∙ ap (λ (s : Signature). look_up s.edges a) (same p q h) ∙ look_up-live_edges m valid classes coarse.count q a))
        ∙ sym (accepts_from-next m q a w)

-- classes by their least states
pub least_coarse : (m : Automaton) (classes least : List ℕ) → AreToldApart m classes → AreGrouped (slice_index classes) (length m.states) least → AreCoarse m least
least_coarse m classes least apart grouped = record {
  count = grouped.count;
  told_apart = λ p q ne. apart.told_apart p q (λ e. ne (grouped.together p q e));
  least = λ q r h. let l = grouped.least q r h in (l.0, grouped.together r q l.1 ∙ h);
}
