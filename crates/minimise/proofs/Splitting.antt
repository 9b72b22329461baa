-- States in classes by keys, state by state: each key has the first state that it was found at. The keys of a round are signatures.
use Rattle.std.proofs.Common.{◌≡◌, ◌+◌, ◌<◌, ◌≤◌, ◌⊎◌, ℕ, zero, suc, List, [], ◌∷◌, ◌++◌, Option, Some, length, slice_index, get_or, take, refl, sym, ap, subst, ◌∙◌, inl, inr, arith, length-append}
use Rattle.std.proofs.lemmas.Bool.{cases_eq, cases_lt, true≢false, cases_Bool}
use Rattle.std.proofs.lemmas.List.{get_or_append_left, get_or_push, get_or_past, take_more, append-nil}
use Rattle.std.proofs.lemmas.List.Elements.{filter_map-append}
use Rattle.std.specs.List.{filter_map, cons_option}
use Rattle.std.specs.Option.{option_map}
use Rattle.word_automata.specs.Automaton.{Automaton}
use Rattle.minimise.specs.Signatures.{Signature, same_signature}
use Rattle.minimise.specs.SignatureLaws.{same_signature-decides}
use Rattle.minimise.specs.Refinement.{live_class, live_edge, signature_of, no_word, FindsClass, AreGrouped}
use Rattle.word_automata.proofs.ForCallers.{is_accepting-past}
use Rattle.minimise.proofs.Edges.{live_edges_past}

-- an edge of a signature, one after another
module _ (classes : List ℕ) (edges : List (ℕ × ℕ)) (i : ℕ) (l : i < length edges) (done : List (ℕ × ℕ)) (h : done ≡ filter_map (live_edge classes) (take i edges)) where
  next_edge : filter_map (live_edge classes) (take (i + 1) edges) ≡ done ++ cons_option (live_edge classes (get_or edges i (0, 0))) []
  next_edge =
      ap (filter_map (live_edge classes)) (take_more edges i (0, 0) l) ∙ filter_map-append (live_edge classes) (take i edges) (get_or edges i (0, 0) ∷ [])
      ∙ ap (λ xs. xs ++ cons_option (live_edge classes (get_or edges i (0, 0))) []) (sym h)

  pub live_edge_more : (slice_index classes (get_or edges i (0, 0)).1 ≡ 0 → ⊥)
      → done ++ ((get_or edges i (0, 0)).0, slice_index classes (get_or edges i (0, 0)).1) ∷ [] ≡ filter_map (live_edge classes) (take (i + 1) edges)
  live_edge_more ne = sym (next_edge ∙ by (slice_index classes (get_or edges i (0, 0)).1) refl)
    where
      by : (c : ℕ) → slice_index classes (get_or edges i (0, 0)).1 ≡ c
          → done ++ cons_option (live_edge classes (get_or edges i (0, 0))) [] ≡ done ++ ((get_or edges i (0, 0)).0, slice_index classes (get_or edges i (0, 0)).1) ∷ []
      by zero e = absurd (ne e)
      by (suc c) e =
          let edge = get_or edges i (0, 0) in
          let some : live_class (slice_index classes edge.1) ≡ Some (slice_index classes edge.1) = ap live_class e ∙ ap Some (sym e) in
          ap (λ o. done ++ cons_option (option_map (λ d. (edge.0, d)) o) []) some

  pub dead_edge_more : slice_index classes (get_or edges i (0, 0)).1 ≡ 0 → done ≡ filter_map (live_edge classes) (take (i + 1) edges)
  dead_edge_more e =
      let edge = get_or edges i (0, 0) in
      sym (next_edge ∙ ap (λ o. done ++ cons_option (option_map (λ d. (edge.0, d)) (live_class o)) []) e ∙ append-nil done)

module _ {K : Type 0} (key : ℕ → K) (none : K) (decide : (s t : K) → (s ≡ t) ⊎ (s ≡ t → ⊥)) where
  -- the state has a class in the finer list: 0 where it has the key none, and else that of the first state with its key
  abbrev pub HasClass : (K → Option ℕ) → List ℕ → ℕ → Type 0
  HasClass firsts finer r =
      ((key r ≡ none) × (slice_index finer r ≡ 0))
      ⊎ ((key r ≡ none → ⊥) × (k : ℕ) × (firsts (key r) ≡ Some (suc k)) × (slice_index finer r ≡ suc k) × (k ≤ r) × (key k ≡ key r))

  pub record IsSplitting (firsts : K → Option ℕ) (finer : List ℕ) (q : ℕ) : Type 0 where
    pub count : length finer ≡ q
    pub known : (s : K) (c : ℕ) → firsts s ≡ Some c → (r : ℕ) × (c ≡ suc r) × (r < q) × (key r ≡ s)
    pub done : (r : ℕ) → r < q → HasClass firsts finer r

  module _ (firsts more : K → Option ℕ) (finer : List ℕ) (q c : ℕ) (s : IsSplitting firsts finer q) where
    -- classes that were found stay
    kept_class : ((t : K) (k : ℕ) → firsts t ≡ Some k → more t ≡ Some k) → (r : ℕ) → r < q → HasClass more (finer ++ c ∷ []) r
    kept_class keeps r l = by (s.done r l)
      where
        same : slice_index (finer ++ c ∷ []) r ≡ slice_index finer r
        same = get_or_append_left finer (c ∷ []) 0 r (let e = s.count in omega arith)

        by : HasClass firsts finer r → HasClass more (finer ++ c ∷ []) r
        by (inl h) = inl (h.0, same ∙ h.1)
        by (inr h) = inr (h.0, h.1, keeps (key r) (suc h.1) h.2, same ∙ h.3, h.4, h.5)

    last_class : slice_index (finer ++ c ∷ []) q ≡ c
    last_class = get_or_push finer c 0 q s.count

    pub splitting_more : FindsClass none firsts more (key q) q c → IsSplitting more (finer ++ c ∷ []) (suc q)
    splitting_more found = record {
      count = (let e = s.count in let a = length-append finer (c ∷ []) in omega arith);
      known = known found;
      done = λ r l. done found r (cases_eq r q) l;
    }
      where
        known : FindsClass none firsts more (key q) q c → (t : K) (k : ℕ) → more t ≡ Some k → (r : ℕ) × (k ≡ suc r) × (r < suc q) × (key r ≡ t)
        known (inl f) t k h = let x = s.known t k (sym (f.same t) ∙ h) in (x.0, x.1, (let l = x.2 in omega arith), x.3)
        known (inr (inl f)) t k h = let x = s.known t k (sym (f.same t) ∙ h) in (x.0, x.1, (let l = x.2 in omega arith), x.3)
        known (inr (inr f)) t k h = elim (decide (key q) t) [
          | inl same ↦
              let new : more t ≡ Some (suc q) = subst (λ x. more x ≡ Some (suc q)) same f.added in
              (q, cc, omega arith, same)
          | inr differ ↦
              let x = s.known t k (sym (f.same t differ) ∙ h) in (x.0, x.1, (let l = x.2 in omega arith), x.3)
        ]

        keeps : FindsClass none firsts more (key q) q c → (t : K) (k : ℕ) → firsts t ≡ Some k → more t ≡ Some k
        keeps (inl f) t k h = f.same t ∙ h
        keeps (inr (inl f)) t k h = f.same t ∙ h
        keeps (inr (inr f)) t k h = f.same t (λ same. let a = ap firsts same in let b = f.unknown in cc) ∙ h

        last : FindsClass none firsts more (key q) q c → HasClass more (finer ++ c ∷ []) q
        last (inl f) = inl (f.is_none, last_class ∙ f.class_is)
        last (inr (inl f)) =
            let x = s.known (key q) c f.known in
            inr (f.some, x.0, f.same (key q) ∙ f.known ∙ ap Some x.1, last_class ∙ x.1, (let l = x.2 in omega arith), x.3)
        last (inr (inr f)) = inr (f.some, q, f.added, last_class ∙ f.class_is, omega arith, refl)

        done : FindsClass none firsts more (key q) q c → (r : ℕ) → (r ≡ q) ⊎ (r ≡ q → ⊥) → r < suc q → HasClass more (finer ++ c ∷ []) r
        done f r (inl same) l = subst (HasClass more (finer ++ c ∷ [])) (sym same) (last f)
        done f r (inr other) l = kept_class (keeps f) r (omega arith)

  pub splitting_all : (n : ℕ) → ((q : ℕ) → n ≤ q → key q ≡ none) → (firsts : K → Option ℕ) (finer : List ℕ) → IsSplitting firsts finer n → AreGrouped key n finer
  splitting_all n none_past firsts finer s = record {
    count = s.count;
    together = λ p q e. together p q e (status p) (status q);
    apart = λ p q e. apart p q e (status p) (status q);
    least = λ q r e. least q r e (status q);
  }
    where
      status : (p : ℕ) → HasClass firsts finer p
      status p = elim (cases_lt p n) [
        | inl there ↦ s.done p there
        | inr past ↦ inl (none_past p past, get_or_past finer p 0 (let e = s.count in omega arith))
      ]

      together : (p q : ℕ) → key p ≡ key q → HasClass firsts finer p → HasClass firsts finer q → slice_index finer p ≡ slice_index finer q
      together p q e (inl h) (inl k) = h.1 ∙ sym k.1
      together p q e (inl h) (inr k) = absurd (k.0 (sym e ∙ h.0))
      together p q e (inr h) (inl k) = absurd (h.0 (e ∙ k.0))
      together p q e (inr h) (inr k) = let a = ap firsts e in let x = h.2 in let y = k.2 in let same : suc h.1 ≡ suc k.1 = cc in h.3 ∙ same ∙ sym k.3

      apart : (p q : ℕ) → slice_index finer p ≡ slice_index finer q → HasClass firsts finer p → HasClass firsts finer q → key p ≡ key q
      apart p q e (inl h) (inl k) = h.0 ∙ sym k.0
      apart p q e (inl h) (inr k) = absurd (let a = h.1 in let b = k.3 in omega arith)
      apart p q e (inr h) (inl k) = absurd (let a = h.3 in let b = k.1 in omega arith)
      apart p q e (inr h) (inr k) = let same : h.1 ≡ k.1 = (let a = h.3 in let b = k.3 in omega arith) in sym h.5 ∙ ap key same ∙ k.5

      least : (q r : ℕ) → slice_index finer q ≡ suc r → HasClass firsts finer q → (r ≤ q) × (key r ≡ key q)
      least q r e (inl h) = absurd (let a = h.1 in omega arith)
      least q r e (inr h) = let same : h.1 ≡ r = (let a = h.3 in omega arith) in ((let b = h.4 in omega arith), subst (λ k. key k ≡ key q) same h.5)

-- signatures are equal or not
pub same_or_other : (s t : Signature) → (s ≡ t) ⊎ (s ≡ t → ⊥)
same_or_other s t = elim (cases_Bool (same_signature s t)) [
  | inl e ↦ inl ((same_signature-decides s t).0 e)
  | inr e ↦ inr (λ same. true≢false (sym ((same_signature-decides s t).1 same) ∙ e))
]

-- a number that is no state has the signature of no word
pub signature_of-past : (m : Automaton) (classes : List ℕ) → length classes ≡ length m.states → (q : ℕ) → length m.states ≤ q → signature_of m classes q ≡ no_word
signature_of-past m classes count q past = λ i. record {
  class = get_or_past classes q 0 (omega arith) i;
  accepting = is_accepting-past m.states q past i;
  edges = live_edges_past classes m.states q past i;
}
