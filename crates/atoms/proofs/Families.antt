-- That a family that is closed under preimages covers what states accept.
use Rattle.std.proofs.Common.{◌≡◌, ◌<◌, ℕ, zero, suc, List, [], ◌∷◌, Option, None, Some, Contains, IsTrue, length, get_or, subst, inl, inr, refl, sym, ap, ◌∙◌, true≢false, arith}
use Rattle.std.proofs.lemmas.List.{get_or_default}
use Rattle.word_automata.specs.Path.{Node, edges_of, is_accepting}
use Rattle.word_automata.specs.Nondeterministic.{NondeterministicAutomaton}
use Rattle.word_automata.proofs.ForCallers.{Contains-none}
use Rattle.reduction.specs.Reduction.{AcceptsAlong}
use Rattle.atoms.specs.private.Adding.{IsListed}
use Rattle.atoms.specs.private.Places.{label_number, IsUsed, AreUsed, IsPlaceOf, HoldsState, AreTurned, IsSource, LeadsInto}
use Rattle.atoms.specs.private.Family.{IsUnionOf, IsClosedUpTo, Covers}
use Rattle.bit_set.proofs.ForCallers.{HasAt-within}

-- letters of the same number are the same
pub same_letter : (label other : Option ℕ) → label_number label ≡ label_number other → label ≡ other
same_letter None None e = refl
same_letter None (Some b) e = absurd (omega arith)
same_letter (Some a) None e = absurd (omega arith)
same_letter (Some a) (Some b) e = ap Some (omega arith)

-- what accepts or has an edge is a state
pub accepts_within : {L : Type 0} (states : List (Node L)) (q : ℕ) → IsTrue (is_accepting states q) → q < length states
accepts_within [] q accepts = absurd (true≢false (sym accepts))
accepts_within (s ∷ states) zero accepts = omega arith
accepts_within (s ∷ states) (suc q) accepts = let l = accepts_within states q accepts in omega arith

pub edge_within : {L : Type 0} (states : List (Node L)) (q : ℕ) (edge : L × ℕ) → Contains (edges_of states q) edge → q < length states
edge_within [] q edge there = absurd (Contains-none edge there)
edge_within (s ∷ states) zero edge there = omega arith
edge_within (s ∷ states) (suc q) edge there = let l = edge_within states q edge there in omega arith

-- along labels from the front: preimages of unions are unions of preimages
pub covers_along : (n : NondeterministicAutomaton) (Holds : ℕ → ℕ → Type 0) → IsUnionOf Holds (λ q. IsTrue (is_accepting n.states q))
    → ((label : Option ℕ) (k : ℕ) → IsUnionOf Holds (λ q. (p : ℕ) × Contains (edges_of n.states q) (label, p) × Holds k p))
    → (labels : List (Option ℕ)) → IsUnionOf Holds (λ q. AcceptsAlong n q labels)
covers_along n Holds accepting preimages [] q along = accepting q along
covers_along n Holds accepting preimages (label ∷ labels) q along =
    let inner = covers_along n Holds accepting preimages labels along.0 along.2 in
    let outer = preimages label inner.0 q (along.0, along.1, inner.1) in
    (outer.0, outer.1, λ r there. let back = outer.2 r there in (back.0, back.1, inner.2 back.0 back.2))

module _ (n : NondeterministicAutomaton) (into : List (List (ℕ × ℕ))) (used : List ℕ) (turned : AreTurned n used into) (all : AreUsed n used) where
  -- a used state has a place
  place_of : (q : ℕ) → q < length n.states → IsUsed n q → (place : ℕ) × IsPlaceOf used place q
  place_of q state is_used =
      let there = all.complete q state is_used in
      (there.0, (there.1, get_or_default used there.0 0 q there.1 ∙ there.2))

  module _ (letters : ℕ) (in_range : (q p : ℕ) (label : Option ℕ) → Contains (edges_of n.states q) (label, p) → label_number label < letters)
      (sets : List (List ℕ)) (closed : IsClosedUpTo n into used letters sets (length sets)) where
    accepting : IsUnionOf (λ k q. HoldsState used (get_or sets k []) q) (λ q. IsTrue (is_accepting n.states q))
    accepting q accepts =
        let place = place_of q (accepts_within n.states q accepts) (inl accepts) in
        let at_place = subst (λ x. IsTrue (is_accepting n.states x)) (sym place.1.1) accepts in
        let union = closed.accepting place.0 (place.1.0, at_place) in (
          union.0,
          (place.0, place.1, union.1),
          λ r held. subst (λ x. IsTrue (is_accepting n.states x)) held.1.1 (union.2 held.0 held.2).1,
        )

    preimages : (label : Option ℕ) (k : ℕ)
        → IsUnionOf (λ k q. HoldsState used (get_or sets k []) q) (λ q. (p : ℕ) × Contains (edges_of n.states q) (label, p) × HoldsState used (get_or sets k []) p)
    preimages label k q led =
        let p = led.0 in
        let edge = led.1 in
        let held = led.2 in
        let place = place_of q (edge_within n.states q (label, p) edge) (inr ((label, p), edge)) in
        let edge_at = subst (λ x. Contains (edges_of n.states x) (label, p)) (sym place.1.1) edge in
        let listed = turned.complete place.0 p label place.1.0 edge_at in
        let source : IsSource into used held.0 (label_number label) place.0 = (held.1.0, subst (λ x. IsListed into x (label_number label, place.0)) (sym held.1.1) listed) in
        let union = closed.preimages k (label_number label) (HasAt-within sets k held.0 held.2) (in_range q p label edge) place.0 (held.0, held.2, source) in
        (union.0, (place.0, place.1, union.1), λ r back. from r back.0 back.1 (union.2 back.0 back.2))
      where
        from : (r place : ℕ) → IsPlaceOf used place r → LeadsInto into used (get_or sets k []) (label_number label) place
            → (p : ℕ) × Contains (edges_of n.states r) (label, p) × HoldsState used (get_or sets k []) p
        from r place is leads =
            let entry = (turned.sound (get_or used leads.0 0) (label_number label, place) leads.2.1).1 in
            let same : label ≡ entry.0 = same_letter label entry.0 (ap (λ (x : ℕ × ℕ). x.0) entry.2) in
            let edge = subst (λ x. Contains (edges_of n.states x) (entry.0, get_or used leads.0 0)) is.1 entry.1 in (
              get_or used leads.0 0,
              subst (λ l. Contains (edges_of n.states r) (l, get_or used leads.0 0)) (sym same) edge,
              (leads.0, (leads.2.0, refl), leads.1),
            )

    pub closed_covers : Covers n used sets
    closed_covers = covers_along n (λ k q. HoldsState used (get_or sets k []) q) accepting preimages
