-- The quotient of an automaton by its classes accepts what the automaton does, and what is built from it is canonical.
use Rattle.std.proofs.Common.{◌≡◌, ◌<◌, inl, inr, slice_index_or, ℕ, zero, suc, Bool, false, List, [], ◌∷◌, ◌++◌, ◌+◌, take, get_or, Option, None, Some, length, slice_index, slice_get, refl, sym, ap, subst, ◌∙◌, arith, All, IsTrue}
use Rattle.std.proofs.lemmas.Bool.{true_from_ne_false, cases_lt}
use Rattle.std.proofs.lemmas.List.Elements.{All-nil, filter_map-append}
use Rattle.std.proofs.lemmas.List.{take_more, append-nil}
use Rattle.std.specs.List.{filter_map, cons_option}
use Rattle.std.specs.Option.{option_map, option_and_then}
use Rattle.word_automata.specs.Path.{edges_of}
use Rattle.word_automata.specs.Automaton.{Automaton, target, accepts, accepts_from, IsValid}
use Rattle.word_automata.proofs.ForCallers.{All-edges_of}
use Rattle.exploration.specs.DeterministicSystem.{accepts_by, accepts_by_from, IsSuccessors}
use Rattle.exploration.specs.Numbering.{IsBreadthFirst, StandsFor}
use Rattle.exploration.proofs.ForCallers.{slice_get-some, look_up-edges, IsSuccessors-moved}
use Rattle.minimise.specs.Canonical.{IsCanonical}
use Rattle.minimise.specs.Refinement.{least_state, AreLanguageClasses, HasLeastStates, quotient, IsLeastState}
use Rattle.minimise.proofs.Edges.{accepts_from-past, class-past, edges_of-increasing}

-- an edge of the quotient
abbrev pub least_edge : List ℕ → ℕ × ℕ → Option (ℕ × ℕ)
least_edge classes edge = option_map (λ r. (edge.0, r)) (least_state (slice_index classes edge.1))

least_state-class : (c r : ℕ) → least_state c ≡ Some r → c ≡ suc r
least_state-class zero r h = cc
least_state-class (suc k) r h = cc

module _ (m : Automaton) (classes : List ℕ) (count : length classes ≡ length m.states) (least : HasLeastStates classes) where
  -- a class other than 0 has a least state that is there
  pub least_state-is : IsValid m → (q r : ℕ) → least_state (slice_index classes q) ≡ Some r → IsLeastState m classes r
  least_state-is valid q r h =
      let l = least q r (least_state-class (slice_index classes q) r h) in
      let own : slice_index classes r ≡ suc r = l.1 in
      record {
        within = elim (cases_lt r (length m.states)) [
          | inl there ↦ there
          | inr past ↦ let z = class-past m valid classes count r past in absurd (omega arith)
        ];
        own = own;
      }

  -- the edges to least states are the successors
  pub least_successors : IsValid m → (q : ℕ) → IsSuccessors (quotient m classes) (IsLeastState m classes) q (filter_map (least_edge classes) (edges_of m.states q))
  least_successors valid q =
      IsSuccessors-moved (λ letter r. least_state (slice_index classes r)) (quotient m classes) (IsLeastState m classes) q (edges_of m.states q) (edges_of-increasing m valid q)
      (All-edges_of (λ edges. All (λ edge. edge.0 < m.letters) edges) m.states (All-nil (λ (edge : ℕ × ℕ). edge.0 < m.letters)) valid.letters_in_range q)
      (λ k d l r e. least_state-is valid (slice_index_or (edges_of m.states q) k d).1 r e)
      (λ a. ap (option_and_then (λ r. least_state (slice_index classes r))) (look_up-edges (edges_of m.states q) a) ∙ by a (target m q a))
    where
      by : (a : ℕ) (o : Option ℕ) → option_and_then (λ r. least_state (slice_index classes r)) o ≡ (elim o as (λ o. Option ℕ) [ None ↦ None | Some r ↦ least_state (slice_index classes r) ])
      by a None = refl
      by a (Some r) = refl

module _ (m : Automaton) (classes : List ℕ) (are : AreLanguageClasses m classes) where
  -- from the least state of a class the quotient accepts what the automaton does from any state of it
  from_least : (w : List ℕ) → ((r : ℕ) → accepts_by_from (quotient m classes) r w ≡ accepts_from m r w) → (q : ℕ)
      → (elim (least_state (slice_index classes q)) as (λ o. Bool) [ None ↦ false | Some r ↦ accepts_by_from (quotient m classes) r w ]) ≡ accepts_from m q w
  from_least w again q = by (slice_index classes q) refl
    where
      by : (c : ℕ) → slice_index classes q ≡ c → (elim (least_state (slice_index classes q)) as (λ o. Bool) [ None ↦ false | Some r ↦ accepts_by_from (quotient m classes) r w ]) ≡ accepts_from m q w
      by zero e =
          ap (λ c. elim (least_state c) as (λ o. Bool) [ None ↦ false | Some r ↦ accepts_by_from (quotient m classes) r w ]) e
          ∙ sym (are.alike q (length m.states) w (e ∙ sym (class-past m are.valid classes are.coarse.count (length m.states) (omega arith))) ∙ accepts_from-past m (length m.states) w (omega arith))
      by (suc r) e =
          ap (λ c. elim (least_state c) as (λ o. Bool) [ None ↦ false | Some r ↦ accepts_by_from (quotient m classes) r w ]) e
          ∙ again r ∙ are.alike r q w ((are.coarse.least q r e).1 ∙ sym e)

  pub quotient_from : (w : List ℕ) (q : ℕ) → accepts_by_from (quotient m classes) q w ≡ accepts_from m q w
  quotient_from [] q = refl
  quotient_from (a ∷ w) q = by (quotient_from w) (target m q a)
    where
      by : ((r : ℕ) → accepts_by_from (quotient m classes) r w ≡ accepts_from m r w) → (o : Option ℕ)
          → (elim (elim o as (λ o. Option ℕ) [ None ↦ None | Some r ↦ least_state (slice_index classes r) ]) as (λ o. Bool) [ None ↦ false | Some r ↦ accepts_by_from (quotient m classes) r w ])
          ≡ (elim o as (λ o. Bool) [ None ↦ false | Some r ↦ accepts_from m r w ])
      by again None = refl
      by again (Some r) = from_least w again r

  pub quotient_language : (w : List ℕ) → accepts_by (quotient m classes) w ≡ accepts m w
  quotient_language w = from_least w (quotient_from w) 0

  -- two least states are told apart
  least_apart : (s t : ℕ) → IsLeastState m classes s → IsLeastState m classes t → (s ≡ t → ⊥) → (w : List ℕ) × (accepts_from m s w ≡ accepts_from m t w → ⊥)
  least_apart s t h k ne = are.coarse.told_apart s t (λ e. ne (let a = h.own in let b = k.own in omega arith))

  -- and some word is accepted from each
  least_live : (s : ℕ) → IsLeastState m classes s → (w : List ℕ) × IsTrue (accepts_from m s w)
  least_live s h =
      let n = length m.states in
      let more = are.coarse.told_apart s n (λ e. let a = h.own in let z = class-past m are.valid classes are.coarse.count n (omega arith) in absurd (omega arith)) in
      (more.0, true_from_ne_false (accepts_from m s more.0) (λ e. more.1 (e ∙ sym (accepts_from-past m n more.0 (omega arith)))))

  pub quotient_canonical : (built : Automaton) → StandsFor (quotient m classes) (IsLeastState m classes) built → IsBreadthFirst built → IsValid built → IsCanonical built
  quotient_canonical built stands breadth_first built_valid = record {
    valid = built_valid;
    breadth_first = breadth_first;
    live = λ q l.
        let s = slice_get-some stands.found q (let c = stands.count in omega arith) in
        let more = least_live s.0 (stands.states q s.0 s.1) in
        (more.0, stands.language q s.0 s.1 more.0 ∙ quotient_from more.0 s.0 ∙ more.1);
    told_apart = λ p q l k.
        let s = slice_get-some stands.found p (let c = stands.count in omega arith) in
        let t = slice_get-some stands.found q (let c = stands.count in omega arith) in
        let more = least_apart s.0 t.0 (stands.states p s.0 s.1) (stands.states q t.0 t.1)
        (λ e. absurd (let same = stands.distinct p q s.0 s.1 (subst (λ x. slice_get stands.found q ≡ Some x) (sym e) t.1) in omega arith)) in
        (more.0, λ e. more.1 (sym (stands.language p s.0 s.1 more.0 ∙ quotient_from more.0 s.0) ∙ e ∙ stands.language q t.0 t.1 more.0 ∙ quotient_from more.0 t.0));
  }

-- the edges of the quotient, one after another
module _ (classes : List ℕ) (edges : List (ℕ × ℕ)) (i : ℕ) (l : i < length edges) (done : List (ℕ × ℕ)) (h : done ≡ filter_map (least_edge classes) (take i edges)) where
  next_least_edge : (o : Option ℕ) → least_state (slice_index classes (get_or edges i (0, 0)).1) ≡ o
      → filter_map (least_edge classes) (take (i + 1) edges) ≡ done ++ cons_option (option_map (λ r. ((get_or edges i (0, 0)).0, r)) o) []
  next_least_edge o e =
      ap (filter_map (least_edge classes)) (take_more edges i (0, 0) l) ∙ filter_map-append (least_edge classes) (take i edges) (get_or edges i (0, 0) ∷ [])
      ∙ ap (λ xs. xs ++ cons_option (least_edge classes (get_or edges i (0, 0))) []) (sym h)
      ∙ ap (λ p. done ++ cons_option (option_map (λ r. ((get_or edges i (0, 0)).0, r)) p) []) e

  pub least_edge_more : (r : ℕ) → Some r ≡ least_state (slice_index classes (get_or edges i (0, 0)).1)
      → done ++ ((get_or edges i (0, 0)).0, r) ∷ [] ≡ filter_map (least_edge classes) (take (i + 1) edges)
  least_edge_more r e = sym (next_least_edge (Some r) (sym e))

  pub no_edge_more : None ≡ least_state (slice_index classes (get_or edges i (0, 0)).1) → done ≡ filter_map (least_edge classes) (take (i + 1) edges)
  no_edge_more e = sym (next_least_edge None (sym e) ∙ append-nil done)
