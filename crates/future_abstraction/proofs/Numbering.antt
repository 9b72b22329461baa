-- States in classes by their signatures, state by state: each number is told by the signature, so that equal signatures have one.
use Rattle.std.proofs.Common.{◌≡◌, ◌<◌, ◌+◌, ℕ, zero, suc, Bool, List, [], ◌∷◌, ◌++◌, Option, length, slice_index, sym, ap, subst, ◌∙◌, true, refl, inl, inr, arith, length-append}
use Rattle.std.proofs.lemmas.Bool.{cases_eq, cases_lt, true≢false}
use Rattle.std.proofs.lemmas.List.{get_or_append_left, get_or_push, get_or_past}
use Rattle.std.proofs.lemmas.Option.{same_Some}
use Rattle.word_automata.specs.Automaton.{Automaton}
use Rattle.minimise.specs.Signatures.{Signature, digest}
use Rattle.minimise.specs.Refinement.{signature_of, no_word, IsSplit}
use Rattle.minimise.proofs.ForCallers.{signature_of-past}
use Rattle.future_abstraction.specs.private.Numbers.{is_kept, IsTold, Keeps, IsLike, IsNumbered, StaysAlike}

told_still : (kept : List Bool) (known more : ℕ → Option ℕ) → Keeps known more → (s : Signature) (n : ℕ) → IsTold kept known s n → IsTold kept more s n
told_still kept known more keeps s n (inl h) = inl h
told_still kept known more keeps s n (inr (inl h)) = inr (inl h)
told_still kept known more keeps s n (inr (inr h)) = inr (inr (record {
  some = h.some;
  others = h.others;
  first = h.first;
  found = keeps (digest s) h.first h.found;
  number_is = h.number_is;
}))

-- a signature tells one number
one_number : (kept : List Bool) (known : ℕ → Option ℕ) (s : Signature) (n k : ℕ) → IsTold kept known s n → IsTold kept known s k → n ≡ k
one_number kept known s n k (inl h) (inl g) = h.1 ∙ sym g.1
one_number kept known s n k (inl h) (inr (inl g)) = absurd (g.some h.0)
one_number kept known s n k (inl h) (inr (inr g)) = absurd (g.some h.0)
one_number kept known s n k (inr (inl h)) (inl g) = absurd (h.some g.0)
one_number kept known s n k (inr (inl h)) (inr (inl g)) = h.number_is ∙ sym g.number_is
one_number kept known s n k (inr (inl h)) (inr (inr g)) = absurd (true≢false (sym h.noted ∙ g.others))
one_number kept known s n k (inr (inr h)) (inl g) = absurd (h.some g.0)
one_number kept known s n k (inr (inr h)) (inr (inl g)) = absurd (true≢false (sym g.noted ∙ h.others))
one_number kept known s n k (inr (inr h)) (inr (inr g)) = h.number_is ∙ ap (λ (x : ℕ). suc x) (same_Some h.first g.first (sym h.found ∙ g.found)) ∙ sym g.number_is

-- the number 0 is that of no word
dead_number : (kept : List Bool) (known : ℕ → Option ℕ) (s : Signature) (n : ℕ) → IsTold kept known s n → n ≡ 0 → s ≡ no_word
dead_number kept known s n (inl h) z = h.0
dead_number kept known s n (inr (inl h)) z = absurd (let e = h.above.1 in omega arith)
dead_number kept known s n (inr (inr h)) z = absurd (let e = h.number_is in omega arith)

-- the first states have their numbers
pub record HasNumbers (m : Automaton) (classes : List ℕ) (kept : List Bool) (known : ℕ → Option ℕ) (finer : List ℕ) (i : ℕ) : Type 0 where
  pub count : length finer ≡ i
  pub told : (p : ℕ) → p < i → IsTold kept known (signature_of m classes p) (slice_index finer p)
  pub like : (p : ℕ) → p < i → IsLike m classes p (slice_index finer p)

pub numbers_more : (m : Automaton) (classes : List ℕ) (kept : List Bool) (known more : ℕ → Option ℕ) (finer : List ℕ) (i number : ℕ)
    → HasNumbers m classes kept known finer i → IsNumbered m classes kept known more i number → HasNumbers m classes kept more (finer ++ number ∷ []) (i + 1)
numbers_more m classes kept known more finer i number has next = record {
  count = (let e = has.count in let a = length-append finer (number ∷ []) in omega arith);
  told = λ p l. elim (cases_eq p i) [
    | inl same ↦ subst (λ q. IsTold kept more (signature_of m classes q) (slice_index (finer ++ number ∷ []) q)) (sym same)
        (subst (IsTold kept more (signature_of m classes i)) (sym last) next.told)
    | inr other ↦
        let earlier : p < i = omega arith in
        subst (IsTold kept more (signature_of m classes p)) (sym (before p earlier))
        (told_still kept known more next.keeps (signature_of m classes p) (slice_index finer p) (has.told p earlier))
  ];
  like = λ p l. elim (cases_eq p i) [
    | inl same ↦ subst (λ q. IsLike m classes q (slice_index (finer ++ number ∷ []) q)) (sym same) (subst (IsLike m classes i) (sym last) next.like)
    | inr other ↦ let earlier : p < i = omega arith in subst (IsLike m classes p) (sym (before p earlier)) (has.like p earlier)
  ];
}
  where
    last : slice_index (finer ++ number ∷ []) i ≡ number
    last = get_or_push finer number 0 i has.count

    before : (p : ℕ) → p < i → slice_index (finer ++ number ∷ []) p ≡ slice_index finer p
    before p l = get_or_append_left finer (number ∷ []) 0 p (let e = has.count in omega arith)

-- once all states have their numbers, these are the classes of signatures
module _ (m : Automaton) (classes : List ℕ) (same_count : length classes ≡ length m.states) (kept : List Bool) (known : ℕ → Option ℕ)
    (finer : List ℕ) (has : HasNumbers m classes kept known finer (length m.states)) where
  told_all : (p : ℕ) → IsTold kept known (signature_of m classes p) (slice_index finer p)
  told_all p = elim (cases_lt p (length m.states)) [
    | inl there ↦ has.told p there
    | inr past ↦ inl (signature_of-past m classes same_count p past, get_or_past finer p 0 (let e = has.count in omega arith))
  ]

  like_all : (p : ℕ) → IsLike m classes p (slice_index finer p)
  like_all p r e = elim (cases_lt p (length m.states)) [
    | inl there ↦ has.like p there r e
    | inr past ↦ absurd (let z : slice_index finer p ≡ 0 = get_or_past finer p 0 (let e = has.count in omega arith) in omega arith)
  ]

  apart : (p q : ℕ) → slice_index finer p ≡ slice_index finer q → signature_of m classes p ≡ signature_of m classes q
  apart p q e = by (slice_index finer q) refl
    where
      by : (n : ℕ) → slice_index finer q ≡ n → signature_of m classes p ≡ signature_of m classes q
      by zero h =
          dead_number kept known (signature_of m classes p) (slice_index finer p) (told_all p) (e ∙ h)
          ∙ sym (dead_number kept known (signature_of m classes q) (slice_index finer q) (told_all q) h)
      by (suc r) h = sym (like_all p r (e ∙ h)).1 ∙ (like_all q r h).1

  pub numbers_all : IsSplit m classes finer
  numbers_all = record {
    count = has.count;
    together = λ p q e. one_number kept known (signature_of m classes q) (slice_index finer p) (slice_index finer q)
        (subst (λ s. IsTold kept known s (slice_index finer p)) e (told_all p)) (told_all q);
    apart = apart;
    least = λ q r e. like_all q r e;
  }

-- signatures of the same parts are one
pub same_parts : (s t : Signature) → s.class ≡ t.class → s.accepting ≡ t.accepting → s.edges ≡ t.edges → s ≡ t
same_parts s t class accepting edges = λ i. record { class = class i; accepting = accepting i; edges = edges i }

-- a class that is kept serves as the number
pub kept_numbered : (m : Automaton) (classes : List ℕ) (kept : List Bool) (known : ℕ → Option ℕ) (q : ℕ) → StaysAlike m classes q
    → is_kept kept (slice_index classes q) ≡ true → IsNumbered m classes kept known known q (slice_index classes q)
kept_numbered m classes kept known q stays noted = record {
  keeps = λ hash first h. h;
  told = by (slice_index classes q) refl;
  like = stays.like;
}
  where
    by : (n : ℕ) → slice_index classes q ≡ n → IsTold kept known (signature_of m classes q) (slice_index classes q)
    by zero e = inl (stays.dead e, e)
    by (suc r) e = inr (inl (record {
      some = λ h. absurd (let z : slice_index classes q ≡ 0 = ap (λ (s : Signature). s.class) h in omega arith);
      noted = noted;
      above = (r, e);
      number_is = refl;
    }))
