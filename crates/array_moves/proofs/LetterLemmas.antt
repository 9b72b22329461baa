-- Lemmas on machines that read and write one letter of the section at each position.
use Rattle.std.proofs.Common.{◌≡◌, ℕ, ◌+◌, ◌<◌, ◌≤◌, List, [], ◌∷◌, ◌++◌, Contains, All, length, refl, sym, ap, subst, inl, inr, arith, IsTrue, ◌⊎◌, ◌↔◌}
use Rattle.std.proofs.lemmas.Option.{same_Some}
use Rattle.std.proofs.lemmas.List.Elements.{All-contains, All-weaker, Contains-append_left, Contains-append_right, Contains-append_cases}
use Rattle.word_automata.specs.Path.{Node, edges_of, is_accepting}
use Rattle.transducers.specs.declared.Label.{Label}
use Rattle.transducers.specs.Transducer.{Transducer, IsEdge, Relates, RelatesFrom}
use Rattle.transducers.specs.Combination.{exchange, copy_edges}
use Rattle.transducers.proofs.ForCallers.{Exchanges, HasExchanges, RelatesFrom-exchanges, exchanges_from_RelatesFrom, copy_from_edge}
use Rattle.transducers.proofs.ForCallers.{copy_edge_from_letter, Contains-single, Contains-from_place, node_from_edge}
use Rattle.protocol_model.specs.System.{AllBelow}
use Rattle.protocol_model.specs.Words.{raised}
use Rattle.protocol_model.specs.Raised.{IsRaisedMove}

-- lists over no letter, and parts of lists in range
pub nothing_below_zero : (s : List ℕ) → AllBelow 0 s → s ≡ []
nothing_below_zero [] h = refl
nothing_below_zero (x ∷ s) h = absurd (omega (arith, h.0))

-- equal labels exchange equal letters
pub same_exchange : (a b x y offset : ℕ) → exchange (a + offset) (b + offset) ≡ exchange (x + offset) (y + offset) → (a ≡ x) × (b ≡ y)
same_exchange a b x y offset e =
    let reads : a + offset ≡ x + offset = same_Some _ _ (ap (λ l. l.read) e) in
    let writes : b + offset ≡ y + offset = same_Some _ _ (ap (λ l. l.write) e) in
    (omega arith, omega arith)

-- an edge of a machine with n states that exchanges two letters of the section
pub record ExchangesLetters (offset count n : ℕ) (edge : Label × ℕ) : Type 0 where
  pub old : ℕ
  pub new : ℕ
  pub old_in_range : old < count
  pub new_in_range : new < count
  pub label : edge.0 ≡ exchange (old + offset) (new + offset)
  pub target_in_range : edge.1 < n

-- every edge of the states is one
abbrev pub HasLetters : ℕ → ℕ → List (Node Label) → Type 0
HasLetters offset count states = All (λ node. All (ExchangesLetters offset count (length states)) node.edges) states

-- the transducer of the states that begins in the first of them
abbrev pub machine : ℕ → List (Node Label) → Transducer
machine letters states = record { letters = letters; starts = 0 ∷ []; states = states }

pub machine_is : (letters : ℕ) (starts : List ℕ) (states wanted : List (Node Label)) → starts ≡ 0 ∷ [] → states ≡ wanted
    → machine letters wanted ≡ record { letters = letters; starts = starts; states = states }
machine_is letters starts states wanted first same = λ i. record { letters = letters; starts = sym first i; states = sym same i }

module _ (offset : ℕ) (states : List (Node Label)) where
  -- a path from the state p to an accepting state changes the first list into the second, position by position
  abbrev pub Changes : ℕ → List ℕ → List ℕ → Type 0
  Changes p [] [] = IsTrue (is_accepting states p)
  Changes p [] (y ∷ t) = ⊥
  Changes p (x ∷ s) [] = ⊥
  Changes p (x ∷ s) (y ∷ t) = (q : ℕ) × Contains (edges_of states p) (exchange (x + offset) (y + offset), q) × Changes q s t

  pub exchanges_from_Changes : (s t : List ℕ) (p : ℕ) → Changes p s t → Exchanges states p (raised offset s) (raised offset t)
  exchanges_from_Changes [] [] p h = h
  exchanges_from_Changes [] (y ∷ t) p h = absurd h
  exchanges_from_Changes (x ∷ s) [] p h = absurd h
  exchanges_from_Changes (x ∷ s) (y ∷ t) p h = (h.0, h.1, exchanges_from_Changes s t h.0 h.2)

module _ (offset count : ℕ) (states : List (Node Label)) (letters : HasLetters offset count states) where
  letters_of : (p : ℕ) (edge : Label × ℕ) → Contains (edges_of states p) edge → ExchangesLetters offset count (length states) edge
  letters_of p edge h =
      let node = node_from_edge states p edge h in
      All-contains (ExchangesLetters offset count (length states)) node.0.edges edge
      (All-contains (λ node. All (ExchangesLetters offset count (length states)) node.edges) states node.0 letters
      (Contains-from_place states p node.0 node.1)) node.2

  -- exchanged words are two lists of the section, raised, between which the states lead
  lists_of : (u w : List ℕ) (p : ℕ) → Exchanges states p u w → IsRaisedMove (Changes offset states p) offset count u w
  lists_of [] [] p h = record {
    old = [];
    new = [];
    old_in_range = tt;
    new_in_range = tt;
    word_before = refl;
    word_after = refl;
    leads = h;
  }
  lists_of [] (b ∷ w) p h = absurd h
  lists_of (a ∷ u) [] p h = absurd h
  lists_of (a ∷ u) (b ∷ w) p h =
      let rest = lists_of u w h.0 h.2 in
      let e = letters_of p (exchange a b, h.0) h.1 in
      let reads : a ≡ e.old + offset = same_Some _ _ (ap (λ l. l.read) e.label) in
      let writes : b ≡ e.new + offset = same_Some _ _ (ap (λ l. l.write) e.label) in
      record {
        old = e.old ∷ rest.old;
        new = e.new ∷ rest.new;
        old_in_range = (e.old_in_range, rest.old_in_range);
        new_in_range = (e.new_in_range, rest.new_in_range);
        word_before = λ i. reads i ∷ rest.word_before i;
        word_after = λ i. writes i ∷ rest.word_after i;
        leads = (h.0, subst (λ l. Contains (edges_of states p) (l, h.0)) e.label h.1, rest.leads);
      }

  -- what the machine relates, where it leads from one list to another exactly as the move does
  pub Relates-raised : (n : ℕ) (moves : List ℕ → List ℕ → Type 0) → ((s t : List ℕ) → Changes offset states 0 s t → moves s t)
      → ((s t : List ℕ) → AllBelow count s → moves s t → Changes offset states 0 s t)
      → (u w : List ℕ) → Relates (machine n states) u w ↔ IsRaisedMove moves offset count u w
  Relates-raised n moves there back u w = (
    λ r.
        let run = subst (λ q. RelatesFrom (machine n states) q u w) (sym (Contains-single 0 r.start r.is_start)) r.run in
        let each : HasExchanges states = record {
          exchanges = λ p edge h. let e = letters_of p edge h in (e.old + offset, e.new + offset, e.label);
        } in
        let m = lists_of u w 0 (exchanges_from_RelatesFrom (machine n states) each u w 0 run) in
        record {
          old = m.old;
          new = m.new;
          old_in_range = m.old_in_range;
          new_in_range = m.new_in_range;
          word_before = m.word_before;
          word_after = m.word_after;
          leads = there m.old m.new m.leads;
        },
    λ m.
        let run = RelatesFrom-exchanges (machine n states) (raised offset m.old) (raised offset m.new) 0
        (exchanges_from_Changes offset states m.old m.new 0 (back m.old m.new m.old_in_range m.leads)) in
        record {
          start = 0;
          is_start = (0, omega arith, refl);
          run = subst (λ v. RelatesFrom (machine n states) 0 v w) (sym m.word_before)
              (subst (λ v. RelatesFrom (machine n states) 0 (raised offset m.old) v) (sym m.word_after) run);
        },
  )

  -- its edges are in range
  pub edges_valid : (n : ℕ) → offset + count ≤ n → All (λ node. All (IsEdge n (length states)) node.edges) states
  edges_valid n fits =
      All-weaker (λ node. All (ExchangesLetters offset count (length states)) node.edges) (λ node. All (IsEdge n (length states)) node.edges)
      (λ node. All-weaker (ExchangesLetters offset count (length states)) (IsEdge n (length states)) in_range node.edges) states letters
    where
      in_range : (edge : Label × ℕ) → ExchangesLetters offset count (length states) edge → IsEdge n (length states) edge
      in_range edge e = subst (λ label. IsEdge n (length states) (label, edge.1)) (sym e.label) (record {
        read_in_range = omega (arith, e.old_in_range, fits);
        write_in_range = omega (arith, e.new_in_range, fits);
        target_in_range = e.target_in_range;
      })

-- the lists have a common part over n letters, and then an edge of the list changes a letter
pub record Leaves (offset : ℕ) (states : List (Node Label)) (n : ℕ) (further : List (Label × ℕ)) (s t : List ℕ) : Type 0 where
  pub before : List ℕ
  pub before_in_range : AllBelow n before
  pub x : ℕ
  pub y : ℕ
  pub q : ℕ
  pub old_rest : List ℕ
  pub new_rest : List ℕ
  pub was : s ≡ before ++ x ∷ old_rest
  pub becomes : t ≡ before ++ y ∷ new_rest
  pub edge : Contains further (exchange (x + offset) (y + offset), q)
  pub rest : Changes offset states q old_rest new_rest

-- a state that copies n letters, and has further edges
module _ (offset : ℕ) (states : List (Node Label)) (p n : ℕ) (further : List (Label × ℕ))
    (edges : edges_of states p ≡ copy_edges offset n p ++ further) where
  pub leave : (s t : List ℕ) → Changes offset states p s t → ((s ≡ t) × AllBelow n s × IsTrue (is_accepting states p))
      ⊎ Leaves offset states n further s t
  leave [] [] h = inl (refl, tt, h)
  leave [] (y ∷ t) h = absurd h
  leave (x ∷ s) [] h = absurd h
  leave (x ∷ s) (y ∷ t) h =
      elim (Contains-append_cases (copy_edges offset n p) further (exchange (x + offset) (y + offset), h.0)
      (subst (λ es. Contains es (exchange (x + offset) (y + offset), h.0)) edges h.1)) [
        | inl copied ↦ (let c = copy_from_edge offset n p (x + offset) (y + offset) h.0 copied in
            copies x y s t (omega (arith, c.0.1)) (let e : x + offset ≡ y + offset = c.1 in omega arith)
            (leave s t (subst (λ q. Changes offset states q s t) c.2 h.2)))
        | inr edge ↦ inr (record {
          before = [];
          before_in_range = tt;
          x = x;
          y = y;
          q = h.0;
          old_rest = s;
          new_rest = t;
          was = refl;
          becomes = refl;
          edge = edge;
          rest = h.2;
        })
      ]
    where
      copies : (x y : ℕ) (s t : List ℕ) → x < n → x ≡ y → ((s ≡ t) × AllBelow n s × IsTrue (is_accepting states p))
          ⊎ Leaves offset states n further s t
          → ((x ∷ s ≡ y ∷ t) × AllBelow n (x ∷ s) × IsTrue (is_accepting states p)) ⊎ Leaves offset states n further (x ∷ s) (y ∷ t)
      copies x y s t lt e (inl h) = inl ((λ i. e i ∷ h.0 i), (lt, h.1), h.2)
      copies x y s t lt e (inr l) = inr (record {
        before = x ∷ l.before;
        before_in_range = (lt, l.before_in_range);
        x = l.x;
        y = l.y;
        q = l.q;
        old_rest = l.old_rest;
        new_rest = l.new_rest;
        was = ap (λ v. x ∷ v) l.was;
        becomes = λ i. sym e i ∷ l.becomes i;
        edge = l.edge;
        rest = l.rest;
      })

  copy_step : (x : ℕ) (s t : List ℕ) → x < n → Changes offset states p s t → Changes offset states p (x ∷ s) (x ∷ t)
  copy_step x s t lt rest =
      let low : offset ≤ x + offset = omega arith in
      let high : x + offset < offset + n = omega arith in (
        p,
        subst (λ es. Contains es (exchange (x + offset) (x + offset), p)) (sym edges)
            (Contains-append_left (copy_edges offset n p) further _ (copy_edge_from_letter offset n p (x + offset) (low, high))),
        rest,
      )

  pub stay : (s : List ℕ) → AllBelow n s → IsTrue (is_accepting states p) → Changes offset states p s s
  stay [] h accepts = accepts
  stay (x ∷ s) h accepts = copy_step x s s h.0 (stay s h.1 accepts)

  pub enter : (before : List ℕ) (x y q : ℕ) (s t : List ℕ) → AllBelow n before → Contains further (exchange (x + offset) (y + offset), q)
      → Changes offset states q s t
      → Changes offset states p (before ++ x ∷ s) (before ++ y ∷ t)
  enter [] x y q s t h edge rest = (
    q,
    subst (λ es. Contains es (exchange (x + offset) (y + offset), q)) (sym edges)
        (Contains-append_right (copy_edges offset n p) further _ edge),
    rest,
  )
  enter (z ∷ before) x y q s t h edge rest = copy_step z (before ++ x ∷ s) (before ++ y ∷ t) h.0 (enter before x y q s t h.1 edge rest)
