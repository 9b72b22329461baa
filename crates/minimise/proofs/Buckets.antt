-- First states of classes, one state after another, and their buckets.
use Rattle.std.proofs.Common.{◌≡◌, ◌<◌, ◌≤◌, ◌⊎◌, ℕ, zero, suc, List, [], ◌∷◌, ◌++◌, length, slice_index, set, refl, sym, ap, subst, ◌∙◌, inl, inr, arith, length-append}
use Rattle.std.proofs.lemmas.Bool.{cases_eq, cases_lt}
use Rattle.std.proofs.lemmas.Nat.{mod_below}
use Rattle.std.proofs.lemmas.List.{get_or_append_left, get_or_push, get_or_past, length-set, get_or-set_same, get_or-set_other}
use Rattle.minimise.specs.Refinement.{AreGrouped}
use Rattle.minimise.specs.private.Numbering.{IsFirst, bucket_of, AreNumbered, AreInBuckets}

pub first_within : (least : List ℕ) (r : ℕ) → IsFirst least r → r < length least
first_within least r h = elim (cases_lt r (length least)) [
  | inl there ↦ there
  | inr past ↦ absurd (let z = get_or_past least r 0 past in let x : slice_index least r ≡ suc r = h in omega arith)
]

-- what comes before a first state in its bucket is less
pub before_lower : {n : ℕ} {classes heads links least : List ℕ} → AreInBuckets n classes heads links least → (p : ℕ) → IsFirst least p → slice_index links p ≤ p
before_lower {links = links} s p f = by (slice_index links p) refl
  where
    by : (k : ℕ) → slice_index links p ≡ k → slice_index links p ≤ p
    by zero e = omega arith
    by (suc r) e = let x = s.before p r f e in let l : r < p = x.2 in omega arith

module _ (least : List ℕ) (c q : ℕ) (count : length least ≡ q) where
  same_number : (r : ℕ) → r < q → slice_index (least ++ c ∷ []) r ≡ slice_index least r
  same_number r l = get_or_append_left least (c ∷ []) 0 r (omega arith)

  pub last_number : slice_index (least ++ c ∷ []) q ≡ c
  last_number = get_or_push least c 0 q count

  pub first_kept : (r : ℕ) → IsFirst least r → IsFirst (least ++ c ∷ []) r
  first_kept r h = same_number r (let l = first_within least r h in omega arith) ∙ h

  more_count : length (least ++ c ∷ []) ≡ suc q
  more_count = let a = length-append least (c ∷ []) in omega arith

  -- a state is first that was, or the new one
  pub first_before : (r : ℕ) → IsFirst (least ++ c ∷ []) r → ((r ≡ q) × (c ≡ suc q)) ⊎ ((r < q) × IsFirst least r)
  first_before r h = elim (cases_eq r q) [
    | inl same ↦ inl (same, sym last_number ∙ ap (slice_index (least ++ c ∷ [])) (sym same) ∙ h ∙ ap suc same)
    | inr other ↦
        let w = first_within (least ++ c ∷ []) r h in
        let l : r < q = (let m = more_count in omega arith) in
        inr (l, sym (same_number r l) ∙ h)
  ]

  pub first_old : (c ≡ suc q → ⊥) → (r : ℕ) → IsFirst (least ++ c ∷ []) r → IsFirst least r
  first_old known r h = elim (first_before r h) [ inl new ↦ absurd (known new.1) | inr old ↦ old.1 ]

  module _ {classes : List ℕ} (numbered : AreNumbered classes least) where
    pub numbered_more : (slice_index classes q ≡ 0 → c ≡ 0)
        → ((slice_index classes q ≡ 0 → ⊥) → (k : ℕ) × (c ≡ suc k) × (k ≤ q) × IsFirst (least ++ c ∷ []) k × (slice_index classes k ≡ slice_index classes q))
        → (c ≡ suc q → (r : ℕ) → IsFirst least r → slice_index classes r ≡ slice_index classes q → ⊥)
        → AreNumbered classes (least ++ c ∷ [])
    numbered_more dead live new = record {
      dead = λ r l z. dead_at r l z (cases_eq r q);
      live = λ r l ne. live_at r l ne (cases_eq r q);
      one = λ p r h k e. one p r e (first_before p h) (first_before r k);
    }
      where
        dead_at : (r : ℕ) → r < length (least ++ c ∷ []) → slice_index classes r ≡ 0 → (r ≡ q) ⊎ (r ≡ q → ⊥) → slice_index (least ++ c ∷ []) r ≡ 0
        dead_at r l z (inl same) = ap (slice_index (least ++ c ∷ [])) same ∙ last_number ∙ dead (ap (slice_index classes) (sym same) ∙ z)
        dead_at r l z (inr other) =
            let w : r < q = (let m = more_count in omega arith) in
            same_number r w ∙ numbered.dead r (omega arith) z

        live_at : (r : ℕ) → r < length (least ++ c ∷ []) → (slice_index classes r ≡ 0 → ⊥) → (r ≡ q) ⊎ (r ≡ q → ⊥)
            → (k : ℕ) × (slice_index (least ++ c ∷ []) r ≡ suc k) × (k ≤ r) × IsFirst (least ++ c ∷ []) k × (slice_index classes k ≡ slice_index classes r)
        live_at r l ne (inl same) =
            let x = live (λ z. ne (ap (slice_index classes) same ∙ z)) in (
              x.0,
              ap (slice_index (least ++ c ∷ [])) same ∙ last_number ∙ x.1,
              (let y = x.2 in omega arith),
              x.3,
              x.4 ∙ ap (slice_index classes) (sym same),
            )
        live_at r l ne (inr other) =
            let w : r < q = (let m = more_count in omega arith) in
            let x = numbered.live r (omega arith) ne in
            (x.0, same_number r w ∙ x.1, x.2, first_kept x.0 x.3, x.4)

        one : (p r : ℕ) → slice_index classes p ≡ slice_index classes r → ((p ≡ q) × (c ≡ suc q)) ⊎ ((p < q) × IsFirst least p)
            → ((r ≡ q) × (c ≡ suc q)) ⊎ ((r < q) × IsFirst least r) → p ≡ r
        one p r e (inl h) (inl k) = h.0 ∙ sym k.0
        one p r e (inl h) (inr k) = absurd (new h.1 r k.1 (sym e ∙ ap (slice_index classes) h.0))
        one p r e (inr h) (inl k) = absurd (new k.1 p h.1 (e ∙ ap (slice_index classes) k.0))
        one p r e (inr h) (inr k) = numbered.one p r h.1 k.1 e

  module _ {n : ℕ} {classes heads links : List ℕ} (s : AreInBuckets n classes heads links least) where
    pub buckets_same : (c ≡ suc q → ⊥) → AreInBuckets n classes heads links (least ++ c ∷ [])
    buckets_same known = record {
      some = s.some;
      heads_count = s.heads_count;
      links_count = s.links_count;
      last = λ b r h. let x = s.last b r h in (first_kept r x.0, x.1);
      before = λ p r f h. let x = s.before p r (first_old known p f) h in (first_kept r x.0, x.1, x.2);
      below_last = λ r f. s.below_last r (first_old known r f);
      below_before = λ p r f g e l. s.below_before p r (first_old known p f) (first_old known r g) e l;
    }

    module _ (new : c ≡ suc q) (within : q < length classes) where
      abbrev pub own : ℕ
      own = bucket_of classes n q

      abbrev pub heads_more : List ℕ
      heads_more = set heads own c

      abbrev pub links_more : List ℕ
      links_more = set links q (slice_index heads own)

      pub own_within : own < length heads
      own_within = let e = s.heads_count in let b = mod_below (slice_index classes q) n s.some in omega arith

      own_head : slice_index heads_more own ≡ suc q
      own_head = get_or-set_same heads own c 0 own_within ∙ new

      other_head : (b : ℕ) → (b ≡ own → ⊥) → slice_index heads_more b ≡ slice_index heads b
      other_head b ne = get_or-set_other heads own b c 0 ne

      own_link : slice_index links_more q ≡ slice_index heads own
      own_link = get_or-set_same links q (slice_index heads own) 0 (let e = s.links_count in omega arith)

      other_link : (r : ℕ) → (r ≡ q → ⊥) → slice_index links_more r ≡ slice_index links r
      other_link r ne = get_or-set_other links q r (slice_index heads own) 0 ne

      pub buckets_more : AreInBuckets n classes heads_more links_more (least ++ c ∷ [])
      buckets_more = record {
        some = s.some;
        heads_count = length-set heads own c ∙ s.heads_count;
        links_count = length-set links q (slice_index heads own) ∙ s.links_count;
        last = λ b r h. last b r h (cases_eq b own);
        before = λ p r f h. before p r h (first_before p f);
        below_last = λ r f. below_last r (first_before r f) (cases_eq (bucket_of classes n r) own);
        below_before = λ p r f g e l. below_before p r e l (first_before p f) (first_before r g);
      }
        where
          last : (b r : ℕ) → slice_index heads_more b ≡ suc r → (b ≡ own) ⊎ (b ≡ own → ⊥) → IsFirst (least ++ c ∷ []) r × (bucket_of classes n r ≡ b)
          last b r h (inl same) =
              let e : r ≡ q = (let x = ap (slice_index heads_more) (sym same) ∙ h in let y = own_head in omega arith) in
              (ap (slice_index (least ++ c ∷ [])) e ∙ last_number ∙ new ∙ ap suc (sym e), ap (bucket_of classes n) e ∙ sym same)
          last b r h (inr other) = let x = s.last b r (sym (other_head b other) ∙ h) in (first_kept r x.0, x.1)

          before : (p r : ℕ) → slice_index links_more p ≡ suc r → ((p ≡ q) × (c ≡ suc q)) ⊎ ((p < q) × IsFirst least p)
              → IsFirst (least ++ c ∷ []) r × (bucket_of classes n r ≡ bucket_of classes n p) × (r < p)
          before p r h (inl k) =
              let x = s.last own r (sym own_link ∙ ap (slice_index links_more) (sym k.0) ∙ h) in
              let w = first_within least r x.0 in
              (first_kept r x.0, x.1 ∙ ap (bucket_of classes n) (sym k.0), (let e = k.0 in omega arith))
          before p r h (inr k) =
              let x = s.before p r k.1 (sym (other_link p (let l = k.0 in λ e. omega arith)) ∙ h) in
              (first_kept r x.0, x.1, x.2)

          below_last : (r : ℕ) → ((r ≡ q) × (c ≡ suc q)) ⊎ ((r < q) × IsFirst least r)
              → (bucket_of classes n r ≡ own) ⊎ (bucket_of classes n r ≡ own → ⊥) → r < slice_index heads_more (bucket_of classes n r)
          below_last r f (inl same) =
              let l : r < suc q = elim f [ inl k ↦ (let e = k.0 in omega arith) | inr k ↦ (let e = k.0 in omega arith) ] in
              subst (λ x. r < x) (sym (ap (slice_index heads_more) same ∙ own_head)) l
          below_last r (inl k) (inr other) = absurd (other (ap (bucket_of classes n) k.0))
          below_last r (inr k) (inr other) = subst (λ x. r < x) (sym (other_head (bucket_of classes n r) other)) (s.below_last r k.1)

          below_before : (p r : ℕ) → bucket_of classes n r ≡ bucket_of classes n p → r < p → ((p ≡ q) × (c ≡ suc q)) ⊎ ((p < q) × IsFirst least p)
              → ((r ≡ q) × (c ≡ suc q)) ⊎ ((r < q) × IsFirst least r) → r < slice_index links_more p
          below_before p r e l (inl h) (inl k) = absurd (let a = h.0 in let b = k.0 in omega arith)
          below_before p r e l (inl h) (inr k) =
              let same = ap (slice_index links_more) h.0 ∙ own_link ∙ ap (slice_index heads) (sym (e ∙ ap (bucket_of classes n) h.0)) in
              subst (λ x. r < x) (sym same) (s.below_last r k.1)
          below_before p r e l (inr h) (inl k) = absurd (let a = h.0 in let b = k.0 in omega arith)
          below_before p r e l (inr h) (inr k) =
              subst (λ x. r < x) (sym (other_link p (let a = h.0 in λ same. omega arith))) (s.below_before p r h.1 k.1 e l)

      pub buckets_put : (bucket link : ℕ) → bucket ≡ own → link ≡ slice_index heads own
          → AreInBuckets (length (set heads bucket c)) classes (set heads bucket c) (set links q link) (least ++ c ∷ [])
      buckets_put bucket link b l =
          subst (λ i. AreInBuckets (length (set heads i c)) classes (set heads i c) (set links q link) (least ++ c ∷ [])) (sym b)
          (subst (λ i. AreInBuckets (length (set heads own c)) classes (set heads own c) (set links q i) (least ++ c ∷ [])) (sym l)
          (subst (λ n. AreInBuckets n classes heads_more links_more (least ++ c ∷ [])) (sym (length-set heads own c ∙ s.heads_count)) buckets_more))

-- states are in one class exactly where they have one number
pub numbered_all : (classes least : List ℕ) (n : ℕ) → AreNumbered classes least → length least ≡ n → length classes ≡ n → AreGrouped (slice_index classes) n least
numbered_all classes least n s count states = record {
  count = count;
  together = λ p q e. together p q e (status p) (status q);
  apart = λ p q e. apart p q e (status p) (status q);
  least = λ q r e. first q r e (status q);
}
  where
    Status : ℕ → Type 0
    Status p = ((slice_index classes p ≡ 0) × (slice_index least p ≡ 0))
        ⊎ ((slice_index classes p ≡ 0 → ⊥) × (k : ℕ) × (slice_index least p ≡ suc k) × (k ≤ p) × IsFirst least k × (slice_index classes k ≡ slice_index classes p))

    status : (p : ℕ) → Status p
    status p = elim (cases_lt p n) [
      | inl there ↦ elim (cases_eq (slice_index classes p) 0) [
        | inl z ↦ inl (z, s.dead p (omega arith) z)
        | inr ne ↦ let x = s.live p (omega arith) ne in inr (ne, x.0, x.1, x.2, x.3, x.4)
      ]
      | inr past ↦ inl (get_or_past classes p 0 (omega arith), get_or_past least p 0 (omega arith))
    ]

    together : (p q : ℕ) → slice_index classes p ≡ slice_index classes q → Status p → Status q → slice_index least p ≡ slice_index least q
    together p q e (inl h) (inl k) = h.1 ∙ sym k.1
    together p q e (inl h) (inr k) = absurd (k.0 (sym e ∙ h.0))
    together p q e (inr h) (inl k) = absurd (h.0 (e ∙ k.0))
    together p q e (inr h) (inr k) = h.2 ∙ ap suc (s.one h.1 k.1 h.4 k.4 (h.5 ∙ e ∙ sym k.5)) ∙ sym k.2

    apart : (p q : ℕ) → slice_index least p ≡ slice_index least q → Status p → Status q → slice_index classes p ≡ slice_index classes q
    apart p q e (inl h) (inl k) = h.0 ∙ sym k.0
    apart p q e (inl h) (inr k) = absurd (let a = h.1 in let b = k.2 in omega arith)
    apart p q e (inr h) (inl k) = absurd (let a = h.2 in let b = k.1 in omega arith)
    apart p q e (inr h) (inr k) =
        let same : h.1 ≡ k.1 = (let a = h.2 in let b = k.2 in omega arith) in
        sym h.5 ∙ ap (slice_index classes) same ∙ k.5

    first : (q r : ℕ) → slice_index least q ≡ suc r → Status q → (r ≤ q) × (slice_index classes r ≡ slice_index classes q)
    first q r e (inl h) = absurd (let a = h.1 in omega arith)
    first q r e (inr h) =
        let same : h.1 ≡ r = (let a = h.2 in omega arith) in
        ((let b = h.3 in omega arith), subst (λ k. slice_index classes k ≡ slice_index classes q) same h.5)
