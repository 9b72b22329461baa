-- Moves that lead into a class: what is found, and that it tells states apart.
use Rattle.std.proofs.Common.{◌≡◌, ◌+◌, ◌<◌, ◌≤◌, ◌⊎◌, ℕ, List, [], ◌∷◌, Option, None, Some, Contains, length, slice_index, refl, sym, ap, subst, ◌∙◌, inl, inr, arith}
use Rattle.std.proofs.lemmas.Bool.{cases_lt}
use Rattle.std.proofs.lemmas.List.{get_or_default, get_or_past}
use Rattle.word_automata.specs.Path.{edges_of}
use Rattle.word_automata.specs.Automaton.{Automaton, target, IsValid, HasIncreasingLetters}
use Rattle.word_automata.proofs.ForCallers.{found_edge, edge_found, leads_within, Contains-none, All-edges_of}
use Rattle.exploration.specs.Incoming.{Chains, IsInto, AreIncoming, AddsMoves}
use Rattle.minimise.specs.private.Rounds.{AreToldApart}
use Rattle.minimise.specs.private.Splitters.{AddsMovesOf, AreMovesInto, IsSaturated}
use Rattle.minimise.proofs.Edges.{next_state, accepts_from-next}

-- those into the first i states of the list were added
pub record IsFinding (chains : Chains) (classes : List ℕ) (class : ℕ) (states : List ℕ) (old found : List (ℕ × ℕ)) (i : ℕ) : Type 0 where
  pub added : (k : ℕ) (move : ℕ × ℕ) → k < i → slice_index classes (slice_index states k) ≡ class → IsInto chains (slice_index states k) move
      → Contains found move
  pub only : (move : ℕ × ℕ) → Contains found move
      → Contains old move ⊎ ((q : ℕ) × (slice_index classes q ≡ class) × IsInto chains q move)

module _ (chains : Chains) (classes : List ℕ) (class : ℕ) (states : List ℕ) (old : List (ℕ × ℕ)) where
  module _ (found : List (ℕ × ℕ)) (i : ℕ) (so_far : IsFinding chains classes class states old found i) where
    pub finding_same : (slice_index classes (slice_index states i) ≡ class → ⊥) → IsFinding chains classes class states old found (i + 1)
    finding_same other = record {
      added = λ k move l e into. elim (cases_lt k i) [
        | inl less ↦ so_far.added k move less e into
        | inr more ↦ let same : k ≡ i = omega arith in absurd (other (ap (λ x. slice_index classes (slice_index states x)) (sym same) ∙ e))
      ];
      only = so_far.only;
    }

    pub finding_more : (new : List (ℕ × ℕ)) → slice_index classes (slice_index states i) ≡ class
        → AddsMoves chains (slice_index states i) found new → IsFinding chains classes class states old new (i + 1)
    finding_more new own adds = record {
      added = λ k move l e into. elim (cases_lt k i) [
        | inl less ↦ adds.kept move (so_far.added k move less e into)
        | inr more ↦ let same : k ≡ i = omega arith in adds.added move (subst (λ x. IsInto chains (slice_index states x) move) same into)
      ];
      only = λ move there. elim (adds.only move there) [
        | inl before ↦ so_far.only move before
        | inr into ↦ inr (slice_index states i, own, into)
      ];
    }

    pub finding_all : length states ≤ i → AddsMovesOf chains classes class states old found
    finding_all end = record {
      added = λ q move member e into.
          let is : slice_index states member.0 ≡ q = get_or_default states member.0 0 q member.1 ∙ member.2 in
          so_far.added member.0 move (let l = member.1 in omega arith) (ap (slice_index classes) is ∙ e)
          (subst (λ x. IsInto chains x move) (sym is) into);
      only = so_far.only;
    }

-- those into all states of the class, in any order
pub moves_of : (chains : Chains) (classes : List ℕ) (class : ℕ) (states : List ℕ) (old found sorted : List (ℕ × ℕ)) → (class ≡ 0 → ⊥)
    → old ≡ [] → AddsMovesOf chains classes class states old found → ((q : ℕ) → slice_index classes q ≡ class → Contains states q)
    → ((move : ℕ × ℕ) → Contains found move → Contains sorted move) → ((move : ℕ × ℕ) → Contains sorted move → Contains found move)
    → AreMovesInto chains classes class sorted
moves_of chains classes class states old found sorted some none adds all to from = record {
  some = λ move there. some;
  complete = λ move other q there e into. to move (adds.added q move (all q e) e into);
  sound = λ move there. elim (adds.only move (from move there)) [
    | inl before ↦ absurd (Contains-none move (subst (λ xs. Contains xs move) none before))
    | inr leads ↦ leads
  ];
}

-- a state that a move leaves is told apart from one that no move with its letter leaves
module _ (m : Automaton) (valid : IsValid m) (chains : Chains) (incoming : AreIncoming m chains) (classes : List ℕ) (apart : AreToldApart m classes)
    (class : ℕ) (moves : List (ℕ × ℕ)) (into : AreMovesInto chains classes class moves) where
  leads : (p a q : ℕ) → Contains (edges_of m.states p) (a, q) → target m p a ≡ Some q
  leads p a q member = edge_found (edges_of m.states p) (All-edges_of HasIncreasingLetters m.states tt valid.ordered p) a q member

  arrives : (p a q : ℕ) → Contains (edges_of m.states p) (a, q) → next_state m p a ≡ q
  arrives p a q member = ap (λ o. elim o as (λ o. ℕ) [ None ↦ length m.states | Some r ↦ r ]) (leads p a q member)

  into_class : (a p q : ℕ) → Contains moves (a, p) → (class ≡ 0 → ⊥) → slice_index classes (next_state m q a) ≡ class → Contains moves (a, q)
  into_class a p q there some e = by (target m q a) refl
    where
      by : (o : Option ℕ) → target m q a ≡ o → Contains moves (a, q)
      by None h =
          let past : next_state m q a ≡ length m.states = ap (λ o. elim o as (λ o. ℕ) [ None ↦ length m.states | Some r ↦ r ]) h in
          let z = get_or_past classes (length m.states) 0 (let c = apart.count in omega arith) in
          absurd (some (sym e ∙ ap (slice_index classes) past ∙ z))
      by (Some r) h =
          let is : next_state m q a ≡ r = ap (λ o. elim o as (λ o. ℕ) [ None ↦ length m.states | Some r ↦ r ]) h in
          into.complete (a, q) (a, p) r there (ap (slice_index classes) (sym is) ∙ e) (incoming.complete q a r (found_edge (edges_of m.states q) a r h))

  pub moves_saturated : IsSaturated m moves
  moves_saturated = record {
    states = λ move there.
        let s = into.sound move there in
        leads_within m move.1 move.0 s.0 (leads move.1 move.0 s.0 (incoming.sound s.0 move s.2));
    apart = λ a p q there absent.
        let s = into.sound (a, p) there in
        let is : next_state m p a ≡ s.0 = arrives p a s.0 (incoming.sound s.0 (a, p) s.2) in
        let differ : slice_index classes (next_state m p a) ≡ slice_index classes (next_state m q a) → ⊥ =
        (λ same. absent (into_class a p q there (into.some (a, p) there) (sym same ∙ ap (slice_index classes) is ∙ s.1))) in
        let more = apart.told_apart (next_state m p a) (next_state m q a) differ in
        (a ∷ more.0, λ h. more.1 (sym (accepts_from-next m p a more.0) ∙ h ∙ accepts_from-next m q a more.0));
  }
