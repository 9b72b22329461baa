-- Lemmas on transducers that relate words to themselves.
use Rattle.std.proofs.Common.{◌≡◌, ℕ, zero, suc, ◌+◌, ◌<◌, ◌≤◌, true, false, List, [], ◌∷◌, length, Contains, refl, sym, ap, ◌∙◌, subst}
use Rattle.std.proofs.Common.{inl, inr, arith, All, true≢false}
use Rattle.std.specs.List.{range_with_len}
use Rattle.std.proofs.lemmas.List.Elements.{All-map, All-nil, All-cons, All-head, All-tail, Contains-get_or, Contains-push_cases}
use Rattle.std.proofs.lemmas.Option.{same_Some}
use Rattle.word_automata.specs.Path.{edges_of}
use Rattle.word_automata.proofs.ForCallers.{Contains-map, Contains-map_cases}
use Rattle.transducers.specs.declared.Label.{Label}
use Rattle.transducers.specs.Transducer.{Transducer, IsEdge, Relates}
use Rattle.transducers.specs.Builder.{without_states, with_state, with_start, with_edges}
use Rattle.transducers.specs.Combination.{exchange, copy_edge, copy_edges}
use Rattle.transducers.proofs.ListLemmas.{Contains-range_cases, Contains-range}
use Rattle.transducers.proofs.ExchangeLemmas.{Exchanges, HasExchanges, RelatesFrom-exchanges, exchanges_from_RelatesFrom}

-- the letters from the offset on
abbrev pub IsLetter : ℕ → ℕ → ℕ → Type 0
IsLetter offset count a = (offset ≤ a) × (a < offset + count)

-- copying edges are in range
pub IsEdge-copies : (letters offset count n to : ℕ) → offset + count ≤ letters → to < n
    → All (IsEdge letters n) (copy_edges offset count to)
IsEdge-copies letters offset count n to fits h =
    All-map (IsEdge letters n) (copy_edge to) (range_with_len offset count)
    (λ k d lt. let a = Contains-range_cases offset count _ (Contains-get_or (range_with_len offset count) k d lt) in
    record {
      read_in_range = omega (arith, a.1, fits);
      write_in_range = omega (arith, a.1, fits);
      target_in_range = h;
    })

-- a copying edge, by its parts
pub copy_from_edge : (offset count to a b q : ℕ) → Contains (copy_edges offset count to) (exchange a b, q) → IsLetter offset count a
    × (a ≡ b) × (q ≡ to)
copy_from_edge offset count to a b q h =
    let from = Contains-map_cases (copy_edge to) (range_with_len offset count) (exchange a b, q) h in
    let reads : from.0 ≡ a = same_Some _ _ (ap (λ e. e.0.read) from.2) in
    let writes : from.0 ≡ b = same_Some _ _ (ap (λ e. e.0.write) from.2) in
    (subst (IsLetter offset count) reads (Contains-range_cases offset count from.0 from.1), sym reads ∙ writes, sym (ap (λ e. e.1) from.2))

pub copy_edge_from_letter : (offset count to a : ℕ) → IsLetter offset count a → Contains (copy_edges offset count to) (exchange a a, to)
copy_edge_from_letter offset count to a h = Contains-map (copy_edge to) (range_with_len offset count) a
    (Contains-range offset count a h.0 h.1)

pub exchange_from_copy : (offset count to : ℕ) (edge : Label × ℕ) → Contains (copy_edges offset count to) edge → (a b : ℕ)
    × (edge.0 ≡ exchange a b)
exchange_from_copy offset count to edge h =
    let from = Contains-map_cases (copy_edge to) (range_with_len offset count) edge h in
    (from.0, from.0, sym (ap (λ e. e.0) from.2))

pub nothing_in_nil : {X : Type 0} {P : Type 0} (x : X) → Contains [] x → P
nothing_in_nil x h = absurd (omega (arith, h.1))

pub Contains-single : {X : Type 0} (x y : X) → Contains (x ∷ []) y → x ≡ y
Contains-single x y h = elim (Contains-push_cases [] x y h) [ inl none ↦ nothing_in_nil y none | inr is ↦ is ]

-- the transducer that copies any word
abbrev pub any_copy : ℕ → ℕ → ℕ → Transducer
any_copy letters offset count = record {
  letters = letters;
  starts = 0 ∷ [];
  states = (record { accepting = true; edges = copy_edges offset count 0 }) ∷ [];
}

-- the transducer that copies any word of one letter
abbrev pub one_copy : ℕ → ℕ → ℕ → Transducer
one_copy letters offset count = record {
  letters = letters;
  starts = 0 ∷ [];
  states = (record { accepting = false; edges = copy_edges offset count 1 }) ∷ (record { accepting = true; edges = [] }) ∷ [];
}

module _ (letters offset count : ℕ) where
  -- they are what the builder makes
  pub built_any : (b0 b1 b2 b3 result : Transducer) (q : ℕ) (edges : List (Label × ℕ)) → b0 ≡ without_states letters
      → q ≡ length b0.states → b1 ≡ with_state b0 true
      → b2 ≡ with_start b1 q → edges ≡ copy_edges offset count q → b3 ≡ with_edges b2 q edges → result ≡ b3
      → result ≡ any_copy letters offset count
  built_any b0 b1 b2 b3 result q edges e0 eq e1 e2 ee e3 er =
      let at : q ≡ 0 = eq ∙ ap (λ b. length b.states) e0 in
      let first = e1 ∙ ap (λ b. with_state b true) e0 in
      let second = e2 ∙ (λ i. with_start (first i) (at i)) in
      let copies = ee ∙ ap (λ to. copy_edges offset count to) at in
      er ∙ e3 ∙ (λ i. with_edges (second i) (at i) (copies i))

  pub any_in_range : (b0 b1 b2 : Transducer) (q : ℕ) (edges : List (Label × ℕ)) → b0 ≡ without_states letters → q ≡ length b0.states
      → b1 ≡ with_state b0 true
      → b2 ≡ with_start b1 q → edges ≡ copy_edges offset count q → offset + count ≤ letters
      → All (IsEdge b2.letters (length b2.states)) edges
  any_in_range b0 b1 b2 q edges e0 eq e1 e2 ee fits =
      let at : q ≡ 0 = eq ∙ ap (λ b. length b.states) e0 in
      let second = e2 ∙ (λ i. with_start ((e1 ∙ ap (λ b. with_state b true) e0) i) (at i)) in
      let copies = ee ∙ ap (λ to. copy_edges offset count to) at in
      subst (λ b. All (IsEdge b.letters (length b.states)) edges) (sym second)
      (subst (λ es. All (IsEdge letters 1) es) (sym copies) (IsEdge-copies letters offset count 1 0 fits (omega arith)))

  pub one_in_range : (b0 b1 b2 b3 : Transducer) (p q : ℕ) (edges : List (Label × ℕ)) → b0 ≡ without_states letters → p ≡ length b0.states
      → b1 ≡ with_state b0 false
      → q ≡ length b1.states → b2 ≡ with_state b1 true → b3 ≡ with_start b2 p → edges ≡ copy_edges offset count q
      → offset + count ≤ letters → All (IsEdge b3.letters (length b3.states)) edges
  one_in_range b0 b1 b2 b3 p q edges e0 ep e1 eq e2 e3 ee fits =
      let first_at : p ≡ 0 = ep ∙ ap (λ b. length b.states) e0 in
      let first = e1 ∙ ap (λ b. with_state b false) e0 in
      let second_at : q ≡ 1 = eq ∙ ap (λ b. length b.states) first in
      let third = e3 ∙ (λ i. with_start ((e2 ∙ ap (λ b. with_state b true) first) i) (first_at i)) in
      let copies = ee ∙ ap (λ to. copy_edges offset count to) second_at in
      subst (λ b. All (IsEdge b.letters (length b.states)) edges) (sym third)
      (subst (λ es. All (IsEdge letters 2) es) (sym copies) (IsEdge-copies letters offset count 2 1 fits (omega arith)))

  pub built_one : (b0 b1 b2 b3 b4 result : Transducer) (p q : ℕ) (edges : List (Label × ℕ)) → b0 ≡ without_states letters
      → p ≡ length b0.states → b1 ≡ with_state b0 false
      → q ≡ length b1.states → b2 ≡ with_state b1 true → b3 ≡ with_start b2 p → edges ≡ copy_edges offset count q
      → b4 ≡ with_edges b3 p edges → result ≡ b4
      → result ≡ one_copy letters offset count
  built_one b0 b1 b2 b3 b4 result p q edges e0 ep e1 eq e2 e3 ee e4 er =
      let first_at : p ≡ 0 = ep ∙ ap (λ b. length b.states) e0 in
      let first = e1 ∙ ap (λ b. with_state b false) e0 in
      let second_at : q ≡ 1 = eq ∙ ap (λ b. length b.states) first in
      let second = e2 ∙ ap (λ b. with_state b true) first in
      let third = e3 ∙ (λ i. with_start (second i) (first_at i)) in
      let copies = ee ∙ ap (λ to. copy_edges offset count to) second_at in
      er ∙ e4 ∙ (λ i. with_edges (third i) (first_at i) (copies i))

  any_exchanges : HasExchanges (any_copy letters offset count).states
  any_exchanges = record { exchanges = each }
    where
      each : (p : ℕ) (edge : Label × ℕ) → Contains (edges_of (any_copy letters offset count).states p) edge → (a b : ℕ)
          × (edge.0 ≡ exchange a b)
      each zero edge h = exchange_from_copy offset count 0 edge h
      each (suc p) edge h = nothing_in_nil edge h

  copied : (u w : List ℕ) (q : ℕ) → q ≡ 0 → Exchanges (any_copy letters offset count).states q u w → (u ≡ w) × All (IsLetter offset count) u
  copied [] [] q at h = (refl, All-nil (IsLetter offset count))
  copied [] (b ∷ w) q at h = absurd h
  copied (a ∷ u) [] q at h = absurd h
  copied (a ∷ u) (b ∷ w) q at h =
      let edge = copy_from_edge offset count 0 a b h.0
      (subst (λ p. Contains (edges_of (any_copy letters offset count).states p) (exchange a b, h.0)) at h.1) in
      let rest = copied u w h.0 edge.2 h.2 in
      ((λ i. edge.1 i ∷ rest.0 i), All-cons (IsLetter offset count) a u edge.0 rest.1)

  copying : (u : List ℕ) → All (IsLetter offset count) u → Exchanges (any_copy letters offset count).states 0 u u
  copying [] h = refl
  copying (a ∷ u) h = (
    0,
    copy_edge_from_letter offset count 0 a (All-head (IsLetter offset count) a u h),
    copying u
        (All-tail (IsLetter offset count) a u h),
  )

  pub Relates-any_copy : (u w : List ℕ) → (Relates (any_copy letters offset count) u w → (u ≡ w) × All (IsLetter offset count) u)
      × ((u ≡ w) × All (IsLetter offset count) u → Relates (any_copy letters offset count) u w)
  Relates-any_copy u w = (
    λ r. copied u w r.start (sym (Contains-single 0 r.start r.is_start))
        (exchanges_from_RelatesFrom (any_copy letters offset count) any_exchanges u w r.start r.run),
    λ h. record {
      start = 0;
      is_start = (0, omega arith, refl);
      run = RelatesFrom-exchanges (any_copy letters offset count) u w 0
          (subst (λ v. Exchanges (any_copy letters offset count).states 0 u v) h.0 (copying u h.1));
    },
  )

  one_exchanges : HasExchanges (one_copy letters offset count).states
  one_exchanges = record { exchanges = each }
    where
      each : (p : ℕ) (edge : Label × ℕ) → Contains (edges_of (one_copy letters offset count).states p) edge → (a b : ℕ)
          × (edge.0 ≡ exchange a b)
      each zero edge h = exchange_from_copy offset count 1 edge h
      each (suc zero) edge h = nothing_in_nil edge h
      each (suc (suc p)) edge h = nothing_in_nil edge h

  nothing_behind : (u w : List ℕ) → Exchanges (one_copy letters offset count).states 1 u w → (u ≡ []) × (w ≡ [])
  nothing_behind [] [] h = (refl, refl)
  nothing_behind [] (b ∷ w) h = absurd h
  nothing_behind (a ∷ u) [] h = absurd h
  nothing_behind (a ∷ u) (b ∷ w) h = nothing_in_nil _ h.1

  one_copied : (u w : List ℕ) → Exchanges (one_copy letters offset count).states 0 u w → (a : ℕ) × (offset ≤ a) × (a < offset + count)
      × (u ≡ a ∷ []) × (w ≡ a ∷ [])
  one_copied [] [] h = absurd (true≢false (sym h))
  one_copied [] (b ∷ w) h = absurd h
  one_copied (a ∷ u) [] h = absurd h
  one_copied (a ∷ u) (b ∷ w) h =
      let edge = copy_from_edge offset count 1 a b h.0 h.1 in
      let rest = nothing_behind u w (subst (λ p. Exchanges (one_copy letters offset count).states p u w) edge.2 h.2) in
      (a, edge.0.0, edge.0.1, (λ i. a ∷ rest.0 i), (λ i. sym edge.1 i ∷ rest.1 i))

  pub Relates-one_copy : (u w : List ℕ) → (Relates (one_copy letters offset count) u w → (a : ℕ) × (offset ≤ a) × (a < offset + count)
      × (u ≡ a ∷ []) × (w ≡ a ∷ []))
      × ((a : ℕ) × (offset ≤ a) × (a < offset + count) × (u ≡ a ∷ []) × (w ≡ a ∷ []) → Relates (one_copy letters offset count) u w)
  Relates-one_copy u w = (
    λ r. one_copied u w (subst (λ p. Exchanges (one_copy letters offset count).states p u w) (sym (Contains-single 0 r.start r.is_start))
        (exchanges_from_RelatesFrom (one_copy letters offset count) one_exchanges u w r.start r.run)),
    λ h. let run : Exchanges (one_copy letters offset count).states 0 (h.0 ∷ []) (h.0
        ∷ []) = (1, copy_edge_from_letter offset count 1 h.0 (h.1, h.2), refl) in
        record {
          start = 0;
          is_start = (0, omega arith, refl);
          run = RelatesFrom-exchanges (one_copy letters offset count) u w 0
              (subst (λ v. Exchanges (one_copy letters offset count).states 0 u v) (sym h.4)
              (subst (λ v. Exchanges (one_copy letters offset count).states 0 v (h.0 ∷ [])) (sym h.3) run));
        },
  )
