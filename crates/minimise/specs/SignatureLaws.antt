-- That the comparison of signatures is equality.
use Rattle.std.specs.Prelude.{◌≡◌, ◌&&◌, ℕ, Bool, true, false, nat_eq}
use Rattle.std.specs.Bool.{Decides, beq}
use Rattle.std.specs.Cmp.{IsEquivalence}
use Rattle.std.specs.Cmp.Lexicographic.{pointwise, pointwise_decides}
use Rattle.std.proofs.Common.{refl, sym, ap, true≢false}
use Rattle.std.proofs.lemmas.Bool.{and_parts, and_from}
use Rattle.std.proofs.lemmas.Bool.Decides.{Decides-eqb, same_from_decides}
use Rattle.minimise.specs.Signatures.{Signature, same_edge, same_signature}

pub beq-decides : (a b : Bool) → Decides (beq a b) (a ≡ b)
beq-decides true true = (λ h. refl, λ h. refl)
beq-decides true false = (λ h. absurd (true≢false (sym h)), λ h. absurd (true≢false h))
beq-decides false true = (λ h. absurd (true≢false (sym h)), λ h. absurd (true≢false (sym h)))
beq-decides false false = (λ h. refl, λ h. refl)

pub same_edge-decides : (e f : ℕ × ℕ) → Decides (same_edge e f) (e ≡ f)
same_edge-decides e f = (to, from)
  where
    to : (same_edge e f ≡ true) → e ≡ f
    to h = let parts = and_parts (nat_eq e.0 f.0) (nat_eq e.1 f.1) h in
        let a = (Decides-eqb e.0 f.0).0 parts.0 in let b = (Decides-eqb e.1 f.1).0 parts.1 in λ i. (a i, b i)

    from : (e ≡ f) → same_edge e f ≡ true
    from h = and_from (nat_eq e.0 f.0) (nat_eq e.1 f.1) ((Decides-eqb e.0 f.0).1 (ap (λ x. x.0) h)) ((Decides-eqb e.1 f.1).1 (ap (λ x. x.1) h))

pub same_signature-decides : (s t : Signature) → Decides (same_signature s t) (s ≡ t)
same_signature-decides s t = (to, from)
  where
    to : (same_signature s t ≡ true) → s ≡ t
    to h =
        let parts = and_parts (nat_eq s.class t.class) (beq s.accepting t.accepting && pointwise same_edge s.edges t.edges) h in
        let more = and_parts (beq s.accepting t.accepting) (pointwise same_edge s.edges t.edges) parts.1 in
        let a = (Decides-eqb s.class t.class).0 parts.0 in
        let b = (beq-decides s.accepting t.accepting).0 more.0 in
        let c = (pointwise_decides same_edge-decides s.edges t.edges).0 more.1 in
        λ i. record { class = a i; accepting = b i; edges = c i }

    from : (s ≡ t) → same_signature s t ≡ true
    from h = and_from (nat_eq s.class t.class) (beq s.accepting t.accepting && pointwise same_edge s.edges t.edges) ((Decides-eqb s.class t.class).1 (ap (λ x. x.class) h))
        (and_from (beq s.accepting t.accepting) (pointwise same_edge s.edges t.edges) ((beq-decides s.accepting t.accepting).1 (ap (λ x. x.accepting) h))
        ((pointwise_decides same_edge-decides s.edges t.edges).1 (ap (λ x. x.edges) h)))

-- what decides equality is an equivalence
equivalence_from_decides : {K : Type 0} (E : K → K → Bool) → ((x y : K) → Decides (E x y) (x ≡ y)) → IsEquivalence E
equivalence_from_decides E d = record {
  refl = λ x. (d x x).1 refl;
  symm = λ x y. same_from_decides (E x y) (E y x) (d x y) ((λ h. sym ((d y x).0 h)), (λ h. (d y x).1 (sym h)));
  congr = λ x y z h. ap (λ k. E k z) ((d x y).0 h);
}

pub same_signature-equivalence : IsEquivalence same_signature
same_signature-equivalence = equivalence_from_decides same_signature same_signature-decides
