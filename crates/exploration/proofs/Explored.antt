-- The steps of the breadth-first construction, and what it has built at its end.
use Rattle.std.proofs.Common.{◌≡◌, ◌==◌, ◌&&◌, ◌<◌, ◌⊎◌, ℕ, suc, Option, None, Some, refl, sym, ap, subst, ◌∙◌, inl, inr, arith, if◌then◌else◌, eq-eqb}
use Rattle.std.proofs.lemmas.Bool.{cases_eq, and_parts, and_from, false_from_ne_true, eqb-true, ne_eqb}
use Rattle.word_automata.specs.Automaton.{Automaton, target}
use Rattle.word_automata.specs.Building.{AddsEdge}
use Rattle.exploration.specs.private.Worklist.{IsEarlier, FirstEdges}

-- one more target, for a state and a letter that had none
pub record AddsTarget (old new : ℕ → ℕ → Option ℕ) (from letter to : ℕ) : Type 0 where
  pub was : old from letter ≡ None
  pub here : new from letter ≡ Some to
  pub other : (q a : ℕ) → ((q ≡ from) × (a ≡ letter) → ⊥) → new q a ≡ old q a

pub adds_target : (m n : Automaton) (from letter to : ℕ) → AddsEdge m n from letter to → target m from letter ≡ None → AddsTarget (target m) (target n) from letter to
adds_target m n from letter to adds none = record {
  was = none;
  here = adds.targets from letter ∙ ap (λ b. if b then Some to else target m from letter) (and_from (from == from) (letter == letter) (eq-eqb from from refl) (eq-eqb letter letter refl));
  other = λ q a ne. adds.targets q a ∙ ap (λ b. if b then Some to else target m q a) (false_from_ne_true ((q == from) && (a == letter))
      (λ both. let parts = and_parts (q == from) (a == letter) both in ne (eqb-true q from parts.0, eqb-true a letter parts.1)));
}

module _ (old new : ℕ → ℕ → Option ℕ) (from letter to : ℕ) (adds : AddsTarget old new from letter to) where
  pub target-cases : (q a : ℕ) → ((q ≡ from) × (a ≡ letter)) ⊎ (new q a ≡ old q a)
  target-cases q a =
      elim (cases_eq q from) [
        | inl e ↦ elim (cases_eq a letter) [ inl f ↦ inl (e, f) | inr ne ↦ inr (adds.other q a (λ both. ne both.1)) ]
        | inr ne ↦ inr (adds.other q a (λ both. ne both.0))
      ]

  target-new : (q a r : ℕ) → new q a ≡ Some r → ((q ≡ from) × (a ≡ letter) × (r ≡ to)) ⊎ (old q a ≡ Some r)
  target-new q a r h =
      elim (target-cases q a) [
        | inl both ↦ let e : new q a ≡ Some to = subst (λ x. new x a ≡ Some to) (sym both.0) (subst (λ y. new from y ≡ Some to) (sym both.1) adds.here) in
            inl (both.0, both.1, cc)
        | inr same ↦ inr (sym same ∙ h)
      ]

  pub target-kept : (q a r : ℕ) → old q a ≡ Some r → new q a ≡ Some r
  target-kept q a r h =
      elim (target-cases q a) [
        | inl both ↦ let e : old q a ≡ None = subst (λ x. old x a ≡ None) (sym both.0) (subst (λ y. old from y ≡ None) (sym both.1) adds.was) in cc
        | inr same ↦ same ∙ h
      ]

  module _ (n : ℕ) (f : FirstEdges old n) (latest : (r b q : ℕ) → old r b ≡ Some q → IsEarlier (r, b) from letter) where
    pub FirstEdges-kept : FirstEdges new n
    FirstEdges-kept = record {
      first = f.first;
      edge = λ q h l. target-kept (f.first q).0 (f.first q).1 q (f.edge q h l);
      earlier = f.earlier;
      least = λ q r b h l e. least q r b h l (target-new r b q e);
      ordered = f.ordered;
    }
      where
        least : (q r b : ℕ) → 0 < q → q < n → ((r ≡ from) × (b ≡ letter) × (q ≡ to)) ⊎ (old r b ≡ Some q) → (((f.first q).0 ≡ r) × ((f.first q).1 ≡ b)) ⊎ IsEarlier (f.first q) r b
        least q r b h l (inl added) =
            inr (subst (λ x. IsEarlier (f.first q) x b) (sym added.0) (subst (IsEarlier (f.first q) from) (sym added.1)
            (latest (f.first q).0 (f.first q).1 q (f.edge q h l))))
        least q r b h l (inr kept) = f.least q r b h l kept

    module _ (below : (r b q : ℕ) → old r b ≡ Some q → q < n) (last : to ≡ n) (before : from < n) where
      first_edge : ℕ → ℕ × ℕ
      first_edge q = if q == n then (from, letter) else f.first q

      first_edge-new : (q : ℕ) → q ≡ n → first_edge q ≡ (from, letter)
      unfolding first_edge
      first_edge-new q e = ap (λ b. if b then (from, letter) else f.first q) (eq-eqb q n e)

      first_edge-old : (q : ℕ) → (q ≡ n → ⊥) → first_edge q ≡ f.first q
      unfolding first_edge
      first_edge-old q ne = ap (λ b. if b then (from, letter) else f.first q) (ne_eqb q n ne)

      place : (q : ℕ) → q < suc n → (q ≡ n) ⊎ ((q < n) × (q ≡ n → ⊥))
      place q l = elim (cases_eq q n) [ inl e ↦ inl e | inr ne ↦ inr (omega arith, ne) ]

      edge_added : (q : ℕ) → 0 < q → (q ≡ n) ⊎ ((q < n) × (q ≡ n → ⊥)) → new (first_edge q).0 (first_edge q).1 ≡ Some q
      edge_added q h (inl e) = subst (λ x. new x.0 x.1 ≡ Some q) (sym (first_edge-new q e)) (adds.here ∙ ap Some (last ∙ sym e))
      edge_added q h (inr (l, ne)) = subst (λ x. new x.0 x.1 ≡ Some q) (sym (first_edge-old q ne)) (target-kept (f.first q).0 (f.first q).1 q (f.edge q h l))

      earlier_added : (q : ℕ) → 0 < q → (q ≡ n) ⊎ ((q < n) × (q ≡ n → ⊥)) → (first_edge q).0 < q
      earlier_added q h (inl e) = subst (λ x. x.0 < q) (sym (first_edge-new q e)) (omega arith)
      earlier_added q h (inr (l, ne)) = subst (λ x. x.0 < q) (sym (first_edge-old q ne)) (f.earlier q h l)

      least_added : (q r b : ℕ) → 0 < q → (q ≡ n) ⊎ ((q < n) × (q ≡ n → ⊥)) → ((r ≡ from) × (b ≡ letter) × (q ≡ to)) ⊎ (old r b ≡ Some q)
          → (((first_edge q).0 ≡ r) × ((first_edge q).1 ≡ b)) ⊎ IsEarlier (first_edge q) r b
      least_added q r b h (inl e) (inl added) =
          subst (λ x. ((x.0 ≡ r) × (x.1 ≡ b)) ⊎ IsEarlier x r b) (sym (first_edge-new q e)) (inl (sym added.0, sym added.1))
      least_added q r b h (inl e) (inr kept) = absurd (let l = below r b q kept in omega arith)
      least_added q r b h (inr (l, ne)) (inl added) = absurd (ne (added.2 ∙ last))
      least_added q r b h (inr (l, ne)) (inr kept) =
          subst (λ x. ((x.0 ≡ r) × (x.1 ≡ b)) ⊎ IsEarlier x r b) (sym (first_edge-old q ne)) (f.least q r b h l kept)

      ordered_added : (q r : ℕ) → 0 < q → q < r → (q ≡ n) ⊎ ((q < n) × (q ≡ n → ⊥)) → (r ≡ n) ⊎ ((r < n) × (r ≡ n → ⊥)) → r < suc n
          → IsEarlier (first_edge q) (first_edge r).0 (first_edge r).1
      ordered_added q r h k (inl e) y l = absurd (omega arith)
      ordered_added q r h k (inr x) (inl e) l =
          subst (λ y. IsEarlier (first_edge q) y.0 y.1) (sym (first_edge-new r e))
          (subst (λ y. IsEarlier y from letter) (sym (first_edge-old q x.1)) (latest (f.first q).0 (f.first q).1 q (f.edge q h x.0)))
      ordered_added q r h k (inr x) (inr y) l =
          subst (λ z. IsEarlier (first_edge q) z.0 z.1) (sym (first_edge-old r y.1))
          (subst (λ z. IsEarlier z (f.first r).0 (f.first r).1) (sym (first_edge-old q x.1)) (f.ordered q r h k y.0))

      pub FirstEdges-added : FirstEdges new (suc n)
      FirstEdges-added = record {
        first = first_edge;
        edge = λ q h l. edge_added q h (place q l);
        earlier = λ q h l. earlier_added q h (place q l);
        least = λ q r b h l e. least_added q r b h (place q l) (target-new r b q e);
        ordered = λ q r h k l. ordered_added q r h k (place q (omega arith)) (place r l) l;
      }
