-- Edges in chains by their targets: what one more edge adds, and what a walk along a chain has found.
use Rattle.std.proofs.Common.{◌≡◌, ◌+◌, ◌<◌, ◌≤◌, ◌⊎◌, ℕ, zero, suc, List, [], ◌∷◌, ◌++◌, Contains, length, slice_index, get_or, set, refl, sym, ap, subst, ◌∙◌, inl, inr, arith, All, replicate}
use Rattle.std.proofs.lemmas.Bool.{cases_eq, cases_lt}
use Rattle.std.proofs.lemmas.List.{length-set, get_or_default, get_or_past, get_or_append_left, get_or_push, get_or-set_same, get_or-set_other, length_push}
use Rattle.std.proofs.lemmas.List.Elements.{All-nil, All-contains, Contains-push, Contains-push_cases, Contains-append_left}
use Rattle.word_automata.specs.Path.{edges_of}
use Rattle.word_automata.specs.Automaton.{Automaton, IsValid}
use Rattle.word_automata.proofs.ForCallers.{edges_of-past, Contains-none, All-edges_of}
use Rattle.exploration.specs.Incoming.{Link, Chains, linked, before, steps_before, IsInChain, IsInto, AreChained, AreIncoming, AddsMoves}
use Rattle.exploration.specs.private.Chains.{AddsEdges}

module _ (edges : List Link) (link : Link) where
  before-append : (number : ℕ) → number ≤ length edges → before (edges ++ link ∷ []) number ≡ before edges number
  before-append zero l = refl
  before-append (suc k) l = ap (λ (x : Link). x.1) (get_or_append_left edges (link ∷ []) ((0, 0), 0) k (omega arith))

  module _ (descends : (k : ℕ) → before edges (suc k) ≤ k) where
    before_le : (number : ℕ) → before edges number ≤ number
    before_le zero = omega arith
    before_le (suc k) = let d = descends k in omega arith

    steps-append : (n number : ℕ) → number ≤ length edges → steps_before (edges ++ link ∷ []) n number ≡ steps_before edges n number
    steps-append zero number l = refl
    steps-append (suc n) number l =
        ap (steps_before (edges ++ link ∷ []) n) (before-append number l)
        ∙ steps-append n (before edges number) (let b = before_le number in omega arith)

module _ (edges : List Link) (descends : (k : ℕ) → before edges (suc k) ≤ k) where
  steps_le : (n number : ℕ) → steps_before edges n number ≤ number
  steps_le zero number = omega arith
  steps_le (suc n) zero = steps_le n 0
  steps_le (suc n) (suc k) = let d = descends k in let s = steps_le n (before edges (suc k)) in omega arith

  -- no edge has number 0, and places are below numbers
  pub chain_none : (k : ℕ) → IsInChain edges 0 k → ⊥
  chain_none k (n, e) = let s = steps_le n 0 in omega arith

  pub chain_below : (number k : ℕ) → IsInChain edges number k → k < number
  chain_below number k (n, e) = let s = steps_le n number in omega arith

-- one more edge, at the end of the list and of its target's chain
abbrev pub longer_by : List ℕ → List Link → ℕ → ℕ × ℕ → List Link
longer_by last edges to move = edges ++ (move, slice_index last to) ∷ []

abbrev pub ended_by : List ℕ → List Link → ℕ → List ℕ
ended_by last edges to = set last to (length edges + 1)

abbrev linked_by : List ℕ → List Link → ℕ → ℕ × ℕ → Chains
linked_by last edges to move = linked (ended_by last edges to) (longer_by last edges to move)

module _ (last : List ℕ) (edges : List Link) (chained : AreChained last edges) (to : ℕ) (move : ℕ × ℕ) (within : to < length last) where
  here : slice_index (ended_by last edges to) to ≡ length edges + 1
  here = get_or-set_same last to (length edges + 1) 0 within

  there : (q : ℕ) → (q ≡ to → ⊥) → slice_index (ended_by last edges to) q ≡ slice_index last q
  there q ne = get_or-set_other last to q (length edges + 1) 0 ne

  end : get_or (longer_by last edges to move) (length edges) ((0, 0), 0) ≡ (move, slice_index last to)
  end = get_or_push edges (move, slice_index last to) ((0, 0), 0) (length edges) refl

  before_end : before (longer_by last edges to move) (suc (length edges)) ≡ slice_index last to
  before_end = ap (λ (x : Link). x.1) end

  steps : (q n : ℕ) → steps_before (longer_by last edges to move) n (slice_index last q) ≡ steps_before edges n (slice_index last q)
  steps q n = steps-append edges (move, slice_index last to) chained.descends n (slice_index last q) (chained.within q)

  steps_more : (n : ℕ) → steps_before (longer_by last edges to move) (suc n) (slice_index (ended_by last edges to) to)
      ≡ steps_before edges n (slice_index last to)
  steps_more n =
      let e : slice_index (ended_by last edges to) to ≡ suc (length edges) = (let h = here in omega arith) in
      ap (λ x. steps_before (longer_by last edges to move) n (before (longer_by last edges to move) x)) e
      ∙ ap (steps_before (longer_by last edges to move) n) before_end ∙ steps to n

  old_at : (k : ℕ) → k < length edges → get_or (longer_by last edges to move) k ((0, 0), 0) ≡ get_or edges k ((0, 0), 0)
  old_at k l = get_or_append_left edges ((move, slice_index last to) ∷ []) ((0, 0), 0) k l

  below : (q n k : ℕ) → steps_before edges n (slice_index last q) ≡ suc k → k < length edges
  below q n k e = let b = chain_below edges chained.descends (slice_index last q) k (n, e) in let w = chained.within q in omega arith

  pub link_chained : AreChained (ended_by last edges to) (longer_by last edges to move)
  link_chained = record { within = λ q. inside q (cases_eq q to); descends = λ k. down k (cases_lt k (length edges)) }
    where
      inside : (q : ℕ) → (q ≡ to) ⊎ (q ≡ to → ⊥) → slice_index (ended_by last edges to) q ≤ length (longer_by last edges to move)
      inside q (inl e) =
          let h = ap (slice_index (ended_by last edges to)) e ∙ here in
          let c = length_push edges (move, slice_index last to) in omega arith
      inside q (inr ne) =
          let h = there q ne in let w = chained.within q in
          let c = length_push edges (move, slice_index last to) in omega arith

      down : (k : ℕ) → (k < length edges) ⊎ (length edges ≤ k) → before (longer_by last edges to move) (suc k) ≤ k
      down k (inl l) = let e = before-append edges (move, slice_index last to) (suc k) (omega arith) in let d = chained.descends k in omega arith
      down k (inr l) = elim (cases_eq k (length edges)) [
        | inl e ↦ let b = ap (λ x. before (longer_by last edges to move) (suc x)) e ∙ before_end in let w = chained.within to in omega arith
        | inr ne ↦
            let c = length_push edges (move, slice_index last to) in
            let past = get_or_past (longer_by last edges to move) k ((0, 0), 0) (omega arith) in
            let b : before (longer_by last edges to move) (suc k) ≡ 0 = ap (λ (x : Link). x.1) past in omega arith
      ]

  pub link_kept : (q : ℕ) (other : ℕ × ℕ) → IsInto (linked last edges) q other → IsInto (linked_by last edges to move) q other
  link_kept q other (k, (n, e), is) = by (cases_eq q to)
    where
      element : get_or (longer_by last edges to move) k ((0, 0), 0) ≡ get_or edges k ((0, 0), 0)
      element = old_at k (below q n k e)

      by : (q ≡ to) ⊎ (q ≡ to → ⊥) → IsInto (linked_by last edges to move) q other
      by (inl same) = subst (λ x. IsInto (linked_by last edges to move) x other) (sym same) (
        k,
        (suc n, steps_more n ∙ ap (λ x. steps_before edges n (slice_index last x)) (sym same) ∙ e),
        ap (λ (x : Link). x.0) element ∙ is,
      )
      by (inr ne) = (
        k,
        (n, ap (steps_before (longer_by last edges to move) n) (there q ne) ∙ steps q n ∙ e),
        ap (λ (x : Link). x.0) element ∙ is,
      )

  pub link_added : IsInto (linked_by last edges to move) to move
  link_added = (length edges, (0, (let h = here in omega arith)), ap (λ (x : Link). x.0) end)

  pub link_only : (q : ℕ) (other : ℕ × ℕ) → IsInto (linked_by last edges to move) q other
      → IsInto (linked last edges) q other ⊎ ((q ≡ to) × (move ≡ other))
  link_only q other (k, (n, e), is) = by (cases_eq q to) n e
    where
      old : (x n : ℕ) → steps_before edges n (slice_index last x) ≡ suc k → IsInto (linked last edges) x other
      old x n h = (k, (n, h), ap (λ (y : Link). y.0) (sym (old_at k (below x n k h))) ∙ is)

      by : (q ≡ to) ⊎ (q ≡ to → ⊥) → (n : ℕ) → steps_before (longer_by last edges to move) n (slice_index (ended_by last edges to) q) ≡ suc k
          → IsInto (linked last edges) q other ⊎ ((q ≡ to) × (move ≡ other))
      by (inr ne) n h = inl (old q n (sym (steps q n) ∙ ap (steps_before (longer_by last edges to move) n) (sym (there q ne)) ∙ h))
      by (inl same) zero h =
          let h' = ap (slice_index (ended_by last edges to)) (sym same) ∙ h in
          let e : k ≡ length edges = (let x = here in omega arith) in
          inr (same, sym (ap (λ (x : Link). x.0) end) ∙ ap (λ j. (get_or (longer_by last edges to move) j ((0, 0), 0)).0) (sym e) ∙ is)
      by (inl same) (suc n) h = inl (subst (λ x. IsInto (linked last edges) x other) (sym same)
          (old to n (sym (steps_more n)
          ∙ ap (λ x. steps_before (longer_by last edges to move) (suc n) (slice_index (ended_by last edges to) x)) (sym same) ∙ h)))

-- the first i edges that leave the state were added
pub record IsAddingEdges (last : List ℕ) (edges : List Link) (more : List ℕ) (longer : List Link) (leaving : List (ℕ × ℕ)) (state i : ℕ)
    : Type 0 where
  pub count : length more ≡ length last
  pub chained : AreChained more longer
  pub kept : (q : ℕ) (move : ℕ × ℕ) → IsInto (linked last edges) q move → IsInto (linked more longer) q move
  pub added : (k : ℕ) → k < i → k < length leaving → (get_or leaving k (0, 0)).1 < length last
      → IsInto (linked more longer) (get_or leaving k (0, 0)).1 ((get_or leaving k (0, 0)).0, state)
  pub only : (q : ℕ) (move : ℕ × ℕ) → IsInto (linked more longer) q move
      → IsInto (linked last edges) q move ⊎ ((move.1 ≡ state) × Contains leaving (move.0, q))

module _ (last : List ℕ) (edges : List Link) (more : List ℕ) (longer : List Link) (leaving : List (ℕ × ℕ)) (state i : ℕ)
    (so_far : IsAddingEdges last edges more longer leaving state i) where
  pub adding_past : length more ≤ (get_or leaving i (0, 0)).1 → IsAddingEdges last edges more longer leaving state (i + 1)
  adding_past past = record {
    count = so_far.count;
    chained = so_far.chained;
    kept = so_far.kept;
    added = λ k l m within. elim (cases_lt k i) [
      | inl less ↦ so_far.added k less m within
      | inr later ↦
          let e : k ≡ i = omega arith in
          let w = subst (λ x. (get_or leaving x (0, 0)).1 < length last) e within in
          absurd (let c = so_far.count in omega arith)
    ];
    only = so_far.only;
  }

  pub adding_more : i < length leaving → (get_or leaving i (0, 0)).1 < length more
      → IsAddingEdges last edges (ended_by more longer (get_or leaving i (0, 0)).1)
      (longer_by more longer (get_or leaving i (0, 0)).1 ((get_or leaving i (0, 0)).0, state)) leaving state (i + 1)
  adding_more l within = record {
    count = length-set more to (length longer + 1) ∙ so_far.count;
    chained = link_chained more longer so_far.chained to move within;
    kept = λ q other into. link_kept more longer so_far.chained to move within q other (so_far.kept q other into);
    added = λ k less m inside. elim (cases_lt k i) [
      | inl before ↦
          let edge = get_or leaving k (0, 0) in
          link_kept more longer so_far.chained to move within edge.1 (edge.0, state) (so_far.added k before m inside)
      | inr later ↦
          let e : i ≡ k = omega arith in
          subst (λ x. IsInto (linked new_last new_edges) (get_or leaving x (0, 0)).1 ((get_or leaving x (0, 0)).0, state)) e
          (link_added more longer so_far.chained to move within)
    ];
    only = λ q other into. by q other (link_only more longer so_far.chained to move within q other into);
  }
    where
      to : ℕ
      to = (get_or leaving i (0, 0)).1

      move : ℕ × ℕ
      move = ((get_or leaving i (0, 0)).0, state)

      new_last : List ℕ
      new_last = ended_by more longer to

      new_edges : List Link
      new_edges = longer_by more longer to move

      by : (q : ℕ) (other : ℕ × ℕ) → IsInto (linked more longer) q other ⊎ ((q ≡ to) × (move ≡ other))
          → IsInto (linked last edges) q other ⊎ ((other.1 ≡ state) × Contains leaving (other.0, q))
      by q other (inl old) = so_far.only q other old
      by q other (inr (same, is)) = inr (
        ap (λ (x : ℕ × ℕ). x.1) (sym is),
        (
          i,
          l,
          get_or_default leaving i (other.0, q) (0, 0) l ∙ (λ j. (ap (λ (x : ℕ × ℕ). x.0) is j, sym same j)),
        ),
      )

  pub adding_all : length leaving ≤ i → AddsEdges last edges more longer leaving state
  adding_all end = record {
    count = so_far.count;
    chained = so_far.chained;
    kept = so_far.kept;
    added = λ edge member within.
        let is : get_or leaving member.0 (0, 0) ≡ edge = get_or_default leaving member.0 (0, 0) edge member.1 ∙ member.2 in
        subst (λ (x : ℕ × ℕ). IsInto (linked more longer) x.1 (x.0, state)) is
        (so_far.added member.0 (let l = member.1 in omega arith) member.1 (subst (λ (x : ℕ × ℕ). x.1 < length last) (sym is) within));
    only = so_far.only;
  }

-- where all are zero each is
pub index-zeros : (n q : ℕ) → slice_index (replicate n 0) q ≡ 0
index-zeros zero q = refl
index-zeros (suc n) zero = refl
index-zeros (suc n) (suc q) = index-zeros n q

-- the edges that leave the first n states are in the chains
pub record AreIncomingBelow (m : Automaton) (last : List ℕ) (edges : List Link) (n : ℕ) : Type 0 where
  pub count : length last ≡ length m.states
  pub chained : AreChained last edges
  pub complete : (p a q : ℕ) → p < n → Contains (edges_of m.states p) (a, q) → IsInto (linked last edges) q (a, p)
  pub sound : (q : ℕ) (move : ℕ × ℕ) → IsInto (linked last edges) q move → Contains (edges_of m.states move.1) (move.0, q)

module _ (m : Automaton) (last : List ℕ) (edges : List Link) where
  pub incoming_none : length last ≡ length m.states → ((q : ℕ) → slice_index last q ≡ 0) → edges ≡ [] → AreIncomingBelow m last edges 0
  incoming_none count zeros none = record {
    count = count;
    chained = record {
      within = λ q. (let z = zeros q in omega arith);
      descends = λ k. (let e : before edges (suc k) ≡ 0 = ap (λ xs. before xs (suc k)) none in omega arith);
    };
    complete = λ p a q l. absurd (omega arith);
    sound = λ q move into. absurd (nothing q into.0 into.1.0 into.1.1);
  }
    where
      stays : (n : ℕ) → steps_before edges n 0 ≡ 0
      stays zero = refl
      stays (suc n) = stays n

      nothing : (q k n : ℕ) → steps_before edges n (slice_index last q) ≡ suc k → ⊥
      nothing q k n e = let s = ap (steps_before edges n) (zeros q) ∙ stays n in omega arith

  module _ (more : List ℕ) (longer : List Link) (n : ℕ) (below : AreIncomingBelow m last edges n) where
    pub incoming_more : IsValid m → AddsEdges last edges more longer (edges_of m.states n) n → AreIncomingBelow m more longer (n + 1)
    incoming_more valid adds = record {
      count = adds.count ∙ below.count;
      chained = adds.chained;
      complete = λ p a q l member. elim (cases_lt p n) [
        | inl less ↦ adds.kept q (a, p) (below.complete p a q less member)
        | inr later ↦
            let e : p ≡ n = omega arith in
            let here = subst (λ x. Contains (edges_of m.states x) (a, q)) e member in
            let target : q < length m.states = All-contains (λ (x : ℕ × ℕ). x.1 < length m.states) (edges_of m.states n) (a, q)
            (All-edges_of (λ edges. All (λ x. x.1 < length m.states) edges) m.states (All-nil (λ (x : ℕ × ℕ). x.1 < length m.states))
            valid.targets_in_range n) here in
            subst (λ x. IsInto (linked more longer) q (a, x)) (sym e) (adds.added (a, q) here (let c = below.count in omega arith))
      ];
      sound = λ q move into. elim (adds.only q move into) [
        | inl old ↦ below.sound q move old
        | inr (same, member) ↦ subst (λ x. Contains (edges_of m.states x) (move.0, q)) (sym same) member
      ];
    }

  pub incoming_all : (n : ℕ) → length m.states ≤ n → IsValid m → AreIncomingBelow m last edges n → AreIncoming m (linked last edges)
  incoming_all n end valid below = record {
    valid = valid;
    complete = λ p a q member. elim (cases_lt p (length m.states)) [
      | inl there ↦ below.complete p a q (omega arith) member
      | inr past ↦ absurd (Contains-none (a, q) (subst (λ xs. Contains xs (a, q)) (edges_of-past m.states p past) member))
    ];
    sound = below.sound;
  }

-- the walk along the chain of a state has come to the edge of this number
pub record IsWalking (last : List ℕ) (edges : List Link) (q : ℕ) (old found : List (ℕ × ℕ)) (number : ℕ) : Type 0 where
  pub within : number ≤ length edges
  pub kept : (move : ℕ × ℕ) → Contains old move → Contains found move
  pub added : (k : ℕ) → IsInChain edges (slice_index last q) k → Contains found (get_or edges k ((0, 0), 0)).0 ⊎ IsInChain edges number k
  pub only : (move : ℕ × ℕ) → Contains found move → Contains old move ⊎ IsInto (linked last edges) q move
  pub chain : (k : ℕ) → IsInChain edges number k → IsInChain edges (slice_index last q) k

module _ (last : List ℕ) (edges : List Link) (chained : AreChained last edges) (q : ℕ) (old : List (ℕ × ℕ)) where
  module _ (found : List (ℕ × ℕ)) (j : ℕ) (so_far : IsWalking last edges q old found (suc j)) where
    pub walking_more : IsWalking last edges q old (found ++ (get_or edges j ((0, 0), 0)).0 ∷ []) (before edges (suc j))
    walking_more = record {
      within = (let d = chained.descends j in let w = so_far.within in omega arith);
      kept = λ move there. Contains-append_left found (here ∷ []) move (so_far.kept move there);
      added = λ k in_chain. by k (so_far.added k in_chain);
      only = λ move there. elim (Contains-push_cases found here move there) [
        | inl before ↦ so_far.only move before
        | inr is ↦ inr (j, so_far.chain j (0, refl), is)
      ];
      chain = λ k (n, e). so_far.chain k (suc n, e);
    }
      where
        here : ℕ × ℕ
        here = (get_or edges j ((0, 0), 0)).0

        goes : (k n : ℕ) → steps_before edges n (suc j) ≡ suc k
            → Contains (found ++ here ∷ []) (get_or edges k ((0, 0), 0)).0 ⊎ IsInChain edges (before edges (suc j)) k
        goes k zero e =
            let same : j ≡ k = omega arith in
            inl (subst (λ x. Contains (found ++ here ∷ []) (get_or edges x ((0, 0), 0)).0) same (Contains-push found here))
        goes k (suc n) e = inr (n, e)

        by : (k : ℕ) → Contains found (get_or edges k ((0, 0), 0)).0 ⊎ IsInChain edges (suc j) k
            → Contains (found ++ here ∷ []) (get_or edges k ((0, 0), 0)).0 ⊎ IsInChain edges (before edges (suc j)) k
        by k (inl there) = inl (Contains-append_left found (here ∷ []) (get_or edges k ((0, 0), 0)).0 there)
        by k (inr (n, e)) = goes k n e

  pub walking_all : (found : List (ℕ × ℕ)) → IsWalking last edges q old found 0 → AddsMoves (linked last edges) q old found
  walking_all found so_far = record {
    kept = so_far.kept;
    added = λ move into. elim (so_far.added into.0 into.1) [
      | inl there ↦ subst (Contains found) into.2 there
      | inr in_chain ↦ absurd (chain_none edges chained.descends into.0 in_chain)
    ];
    only = so_far.only;
  }
