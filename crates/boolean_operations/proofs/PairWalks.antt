-- Walks over pairs of states spell the words that one automaton accepts, and the other accepts or refuses.
use Rattle.std.proofs.Common.{◌≡◌, ◌+◌, ◌<◌, ◌≤◌, ◌⊎◌, ◌↔◌, ℕ, Bool, true, false, not, List, [], ◌∷◌, ◌++◌, Option, None, Some, All, Contains, length, slice_get, slice_index_or, IsTrue, MatchOption, refl, sym, ap, subst, ◌∙◌, inl, inr, arith}
use Rattle.std.proofs.lemmas.Bool.{and_parts, and_from, cases_eq, not-true, true≢false}
use Rattle.std.proofs.lemmas.Option.{same_Some}
use Rattle.std.proofs.lemmas.List.Elements.{All-contains, All-nil, Contains-append_left, Contains-push, Contains-push_cases}
use Rattle.sequence.specs.WordOrder.{IsLeastWord}
use Rattle.word_automata.specs.Path.{edges_of, is_accepting, IsPath, spelled}
use Rattle.word_automata.specs.Automaton.{Automaton, accepts, IsValid}
use Rattle.word_automata.specs.Nondeterministic.{NondeterministicAutomaton, Accepts, IsInRange, as_nondeterministic}
use Rattle.word_automata.proofs.ForCallers.{Contains-none, All-from_contains, All-edges_of, accepts-empty, same_language}
use Rattle.boolean_operations.specs.OptionalStates.{start_of, follow, accepts_at, IsStateOrNone}
use Rattle.boolean_operations.specs.Inclusion.{IsIncluded, IsOutside}
use Rattle.boolean_operations.specs.LeastWords.{AcceptsNothing, IsLeastAccepted}
use Rattle.boolean_operations.specs.private.Search.{Leads, letters_of, IsFound, Gathers}
use Rattle.boolean_operations.specs.private.DeadStates.{AreRejecting}
use Rattle.boolean_operations.specs.private.PairGraph.{IsPair, IsStartPair, advance, PairEdge, LiveEdge, is_wanted, is_goal_pair, IsWordOfPairs, IsAmong, StartsAt, LeadsSilently, LeadsByLetter}
use Rattle.boolean_operations.proofs.OptionalStates.{accepts_option, accepts_option-nil, accepts_option-cons, accepts_option-start, follow-within}
use Rattle.boolean_operations.proofs.SearchCalls.{place_of, contains_at}

-- lists that gather things
module _ {X : Type 0} (P : X → Type 0) where
  pub gathers_none : (R : X → Type 0) (old : List X) → ((x : X) → R x → ⊥) → Gathers P R old old
  gathers_none R old none = record {
    kept = λ x there. there;
    all = λ x is. absurd (none x is);
    only = λ x there. inl there;
  }

  pub gathers_push : (R S : X → Type 0) (old new : List X) (x : X) → P x → S x → ((y : X) → R y → S y) → ((y : X) → S y → R y ⊎ (x ≡ y)) → Gathers P R old new → Gathers P S old (new ++ x ∷ [])
  gathers_push R S old new x valid is grows cases g = record {
    kept = λ y there. Contains-append_left new (x ∷ []) y (g.kept y there);
    all = λ y there. elim (cases y there) [
      | inl before ↦ Contains-append_left new (x ∷ []) y (g.all y before)
      | inr same ↦ subst (Contains (new ++ x ∷ [])) same (Contains-push new x)
    ];
    only = λ y there. elim (Contains-push_cases new x y there) [
      | inl before ↦ by y (g.only y before)
      | inr same ↦ inr (subst (λ z. P z × S z) same (valid, is))
    ];
  }
    where
      by : (y : X) → Contains old y ⊎ (P y × R y) → Contains old y ⊎ (P y × S y)
      by y (inl kept) = inl kept
      by y (inr new_one) = inr (new_one.0, grows y new_one.1)

  pub gathers_same : (R S : X → Type 0) (old new : List X) → ((y : X) → R y → S y) → ((y : X) → S y → R y) → Gathers P R old new → Gathers P S old new
  gathers_same R S old new to from g = record {
    kept = g.kept;
    all = λ y is. g.all y (from y is);
    only = λ y there. by y (g.only y there);
  }
    where
      by : (y : X) → Contains old y ⊎ (P y × R y) → Contains old y ⊎ (P y × S y)
      by y (inl kept) = inl kept
      by y (inr new_one) = inr (new_one.0, to y new_one.1)

  only_new : (R : X → Type 0) (x : X) → Contains [] x ⊎ (P x × R x) → P x × R x
  only_new R x (inl none) = absurd (Contains-none x none)
  only_new R x (inr both) = both

  pub gathered_states : (R : X → Type 0) (new : List X) → Gathers P R [] new → All P new
  gathered_states R new g = All-from_contains P new (λ x there. (only_new R x (g.only x there)).0)

  pub gathered_members : (R : X → Type 0) (new : List X) → Gathers P R [] new → (x : X) → Contains new x ↔ R x
  gathered_members R new g x = ((λ there. (only_new R x (g.only x there)).1), g.all x)

-- what the first k elements of a list lead to
module _ {X Y : Type 0} {P : Y → Type 0} {leads : X → Y → Type 0} {xs : List X} {k : ℕ} {old new : List Y} (g : Gathers P (IsAmong leads xs k) old new) where
  module _ {x : X} (at : slice_get xs k ≡ Some x) where
    kept_among : (y : Y) → IsAmong leads xs k y → IsAmong leads xs (k + 1) y
    kept_among y is = record { place = is.place; below = (let l = is.below in omega arith); source = is.source; at = is.at; goes = is.goes }

    among_cases : (y : Y) → IsAmong leads xs (k + 1) y → IsAmong leads xs k y ⊎ leads x y
    among_cases y is = elim (cases_eq is.place k) [
      | inl same ↦ inr (subst (λ e. leads e y) (same_Some is.source x (sym is.at ∙ ap (slice_get xs) same ∙ at)) is.goes)
      | inr other ↦ inl (record { place = is.place; below = (let l = is.below in omega arith); source = is.source; at = is.at; goes = is.goes })
    ]

    -- the next one leads to one thing
    among_push : (y : Y) → P y → leads x y → ((z : Y) → leads x z → y ≡ z) → Gathers P (IsAmong leads xs (k + 1)) old (new ++ y ∷ [])
    among_push y valid goes one =
        gathers_push P (IsAmong leads xs k) (IsAmong leads xs (k + 1)) old new y valid (record { place = k; below = omega arith; source = x; at = at; goes = goes }) kept_among
        (λ z is. elim (among_cases z is) [ inl before ↦ inl before | inr here ↦ inr (one z here) ]) g

    -- or to nothing
    among_other : ((z : Y) → leads x z → ⊥) → Gathers P (IsAmong leads xs (k + 1)) old new
    among_other nothing =
        gathers_same P (IsAmong leads xs k) (IsAmong leads xs (k + 1)) old new kept_among
        (λ z is. elim (among_cases z is) [ inl before ↦ before | inr here ↦ absurd (nothing z here) ]) g

  among_all : (R : Y → Type 0) → length xs ≤ k → ((x : X) (y : Y) → Contains xs x → leads x y → R y) → ((y : Y) → R y → (x : X) × Contains xs x × leads x y) → Gathers P R old new
  among_all R all to from =
      gathers_same P (IsAmong leads xs k) R old new (λ y is. to is.source y (contains_at xs is.source is.place is.at) is.goes)
      (λ y is. let x = from y is in let there = place_of xs x.0 x.1 in
      record { place = there.0; below = (let l = there.1 in omega arith); source = x.0; at = there.2; goes = x.2 }) g

wanted_gives : (wanted accepted : Bool) → IsTrue (is_wanted wanted accepted) → accepted ≡ wanted
wanted_gives true accepted is = is
wanted_gives false accepted is = not-true accepted is

gives_wanted : (wanted accepted : Bool) → accepted ≡ wanted → IsTrue (is_wanted wanted accepted)
gives_wanted true accepted same = same
gives_wanted false accepted same = ap not same

-- a walk over pairs, without the second parts
abbrev pub strip : List (Option ℕ × (ℕ × Option ℕ)) → List (Option ℕ × ℕ)
strip [] = []
strip (move ∷ moves) = (move.0, move.1.0) ∷ strip moves

module _ (n : NondeterministicAutomaton) (m : Automaton) where
  -- a walk with them
  abbrev pub lift : Option ℕ → List (Option ℕ × ℕ) → List (Option ℕ × (ℕ × Option ℕ))
  lift q [] = []
  lift q (move ∷ moves) = (move.0, (move.1, advance m q move.0)) ∷ lift (advance m q move.0) moves

  abbrev pub after : Option ℕ → List (Option ℕ × ℕ) → Option ℕ
  after q [] = q
  after q (move ∷ moves) = after (advance m q move.0) moves

  pub down : (moves : List (Option ℕ × (ℕ × Option ℕ))) (s t : ℕ × Option ℕ) → Leads (PairEdge n m) s moves t
      → IsPath n.states s.0 (strip moves) t.0 × (spelled (λ l. l) (strip moves) ≡ letters_of moves) × (accepts_option m s.1 (letters_of moves) ≡ accepts_at m t.1)
  down [] s t same = (ap (λ (x : ℕ × Option ℕ). x.0) same, refl, accepts_option-nil m s.1 ∙ ap (λ (x : ℕ × Option ℕ). accepts_at m x.1) same)
  down ((None, r) ∷ moves) s t goes =
      let rest = down moves r t goes.1 in
      ((goes.0.0, rest.0), rest.1, ap (λ q. accepts_option m q (letters_of moves)) (sym goes.0.1) ∙ rest.2)
  down ((Some a, r) ∷ moves) s t goes =
      let rest = down moves r t goes.1 in
      ((goes.0.0, rest.0), ap (λ w. a ∷ w) rest.1, accepts_option-cons m s.1 a (letters_of moves) ∙ ap (λ q. accepts_option m q (letters_of moves)) (sym goes.0.1) ∙ rest.2)

  pub up : (moves : List (Option ℕ × ℕ)) (p e : ℕ) (q : Option ℕ) → IsPath n.states p moves e
      → Leads (PairEdge n m) (p, q) (lift q moves) (e, after q moves) × (letters_of (lift q moves) ≡ spelled (λ l. l) moves)
      × (accepts_option m q (spelled (λ l. l) moves) ≡ accepts_at m (after q moves))
  up [] p e q same = (ap (λ x. (x, q)) same, refl, accepts_option-nil m q)
  up ((None, r) ∷ moves) p e q goes =
      let rest = up moves r e q goes.1 in
      (((goes.0, refl), rest.0), rest.1, rest.2)
  up ((Some a, r) ∷ moves) p e q goes =
      let rest = up moves r e (follow m q a) goes.1 in
      (((goes.0, refl), rest.0), ap (λ w. a ∷ w) rest.1, accepts_option-cons m q a (spelled (λ l. l) moves) ∙ rest.2)

  word_of_found : (wanted : Bool) (w : List ℕ) → IsFound (IsStartPair n m) (PairEdge n m) (is_goal_pair n m wanted) w → IsWordOfPairs n m wanted w
  word_of_found wanted w (t, good, (s, moves, begins, leads, says)) =
      let parts = and_parts (is_accepting n.states t.0) (is_wanted wanted (accepts_at m t.1)) good in
      let d = down moves s t leads in (
        (s.0, strip moves, t.0, begins.0, d.0, parts.0, d.1 ∙ says),
        sym (accepts_option-start m w)
            ∙ ap (λ q. accepts_option m q w) (sym begins.1)
            ∙ ap (accepts_option m s.1) (sym says)
            ∙ d.2
            ∙ wanted_gives wanted (accepts_at m t.1) parts.1,
      )

  found_of_word : (wanted : Bool) (w : List ℕ) → IsWordOfPairs n m wanted w → IsFound (IsStartPair n m) (PairEdge n m) (is_goal_pair n m wanted) w
  found_of_word wanted w ((start, moves, end, begins, path, accepting, says), same) =
      let q = start_of m.states in
      let u = up moves start end q path in (
        (end, after q moves),
        and_from (is_accepting n.states end) (is_wanted wanted (accepts_at m (after q moves))) accepting
            (gives_wanted wanted (accepts_at m (after q moves)) (sym u.2 ∙ ap (accepts_option m q) says ∙ accepts_option-start m w ∙ same)),
        ((start, q), lift q moves, (begins, refl), u.0, u.1 ∙ says),
      )

  -- walks that meet no flagged state
  module _ (flags : List Bool) where
    along_any : (moves : List (Option ℕ × (ℕ × Option ℕ))) (s t : ℕ × Option ℕ) → Leads (LiveEdge n m flags) s moves t → Leads (PairEdge n m) s moves t
    along_any [] s t same = same
    along_any (move ∷ moves) s t goes = (goes.0.0, along_any moves move.1 t goes.1)

    pub found_any : (goal : ℕ × Option ℕ → Bool) (w : List ℕ) → IsFound (IsStartPair n m) (LiveEdge n m flags) goal w → IsFound (IsStartPair n m) (PairEdge n m) goal w
    found_any goal w (t, good, (s, moves, begins, leads, says)) = (t, good, (s, moves, begins, along_any moves s t leads, says))

    module _ (rejecting : AreRejecting n flags) where
      -- a state from which a walk leads to an accepting one has no flag
      is_live : (moves : List (Option ℕ × (ℕ × Option ℕ))) (s t : ℕ × Option ℕ) → Leads (PairEdge n m) s moves t → IsTrue (is_accepting n.states t.0)
          → slice_index_or flags s.0 false ≡ true → ⊥
      is_live [] s t same accepting flag =
          true≢false (sym accepting ∙ ap (λ (x : ℕ × Option ℕ). is_accepting n.states x.0) (sym same) ∙ (rejecting s.0).rejects flag)
      is_live (move ∷ moves) s t goes accepting flag =
          is_live moves move.1 t goes.1 accepting ((rejecting s.0).leads flag move.0 move.1.0 goes.0.0)

      no_flag : (moves : List (Option ℕ × (ℕ × Option ℕ))) (s t : ℕ × Option ℕ) → Leads (PairEdge n m) s moves t → IsTrue (is_accepting n.states t.0)
          → slice_index_or flags s.0 false ≡ false
      no_flag moves s t goes accepting = by (slice_index_or flags s.0 false) refl
        where
          by : (b : Bool) → slice_index_or flags s.0 false ≡ b → slice_index_or flags s.0 false ≡ false
          by true e = absurd (is_live moves s t goes accepting e)
          by false e = e

      along_live : (moves : List (Option ℕ × (ℕ × Option ℕ))) (s t : ℕ × Option ℕ) → Leads (PairEdge n m) s moves t → IsTrue (is_accepting n.states t.0)
          → Leads (LiveEdge n m flags) s moves t
      along_live [] s t same accepting = same
      along_live (move ∷ moves) s t goes accepting = ((goes.0, no_flag moves move.1 t goes.1 accepting), along_live moves move.1 t goes.1 accepting)

      pub found_live : (goal : ℕ × Option ℕ → Bool) → ((t : ℕ × Option ℕ) → IsTrue (goal t) → IsTrue (is_accepting n.states t.0))
          → (w : List ℕ) → IsFound (IsStartPair n m) (PairEdge n m) goal w → IsFound (IsStartPair n m) (LiveEdge n m flags) goal w
      found_live goal accepts_left w (t, good, (s, moves, begins, leads, says)) =
          (t, good, (s, moves, begins, along_live moves s t leads (accepts_left t good), says))

      word_live : (wanted : Bool) (w : List ℕ) → IsWordOfPairs n m wanted w → IsFound (IsStartPair n m) (LiveEdge n m flags) (is_goal_pair n m wanted) w
      word_live wanted w is =
          found_live (is_goal_pair n m wanted) (λ t good. (and_parts (is_accepting n.states t.0) (is_wanted wanted (accepts_at m t.1)) good).0) w
          (found_of_word wanted w is)

      pub least_of_pairs : (wanted : Bool) {X : Type 0} (items : X → List ℕ) (o : Option X)
          → MatchOption o ((w : List ℕ) → IsFound (IsStartPair n m) (LiveEdge n m flags) (is_goal_pair n m wanted) w → ⊥)
          (λ x. IsLeastWord (IsFound (IsStartPair n m) (LiveEdge n m flags) (is_goal_pair n m wanted)) (items x))
          → MatchOption o ((w : List ℕ) → IsWordOfPairs n m wanted w → ⊥) (λ x. IsLeastWord (IsWordOfPairs n m wanted) (items x))
      least_of_pairs wanted items None nothing = λ w is. nothing w (word_live wanted w is)
      least_of_pairs wanted items (Some x) least =
          (word_of_found wanted (items x) (found_any (is_goal_pair n m wanted) (items x) least.0), λ v is before. least.1 v (word_live wanted v is) before)

  -- no word outside
  pub included_where_none : {X : Type 0} (P : X → Type 0) (o : Option X) → MatchOption o ((w : List ℕ) → IsOutside n m w → ⊥) P → MatchOption o (IsIncluded n m) P
  included_where_none P None nothing = λ w run. by w run (accepts m w) refl
    where
      by : (w : List ℕ) → Accepts n w → (b : Bool) → accepts m w ≡ b → accepts m w ≡ true
      by w run true accepted = accepted
      by w run false refused = absurd (nothing w (run, refused))
  included_where_none P (Some x) is = is

  -- the target of an edge is a state
  target_state : IsInRange n → (p : ℕ) (l : Option ℕ) (r : ℕ) → Contains (edges_of n.states p) (l, r) → r < length n.states
  target_state in_range p l r there =
      All-contains (λ (edge : Option ℕ × ℕ). edge.1 < length n.states) (edges_of n.states p) (l, r)
      (All-edges_of (All (λ (edge : Option ℕ × ℕ). edge.1 < length n.states)) n.states (All-nil (λ (edge : Option ℕ × ℕ). edge.1 < length n.states)) in_range.targets_in_range p) there

  -- one more start
  pub start_more : IsInRange n → IsValid m → IsStateOrNone m (start_of m.states) → (pairs : List (ℕ × Option ℕ)) (k p : ℕ) (q : Option ℕ) → q ≡ start_of m.states → slice_get n.starts k ≡ Some p
      → Gathers (IsPair n m) (IsAmong (StartsAt m) n.starts k) [] pairs → Gathers (IsPair n m) (IsAmong (StartsAt m) n.starts (k + 1)) [] (pairs ++ (p, q) ∷ [])
  start_more in_range valid state pairs k p q same at g =
      among_push g at (p, q)
      (in_range, valid, All-contains (λ start. start < length n.states) n.starts p in_range.starts_in_range (contains_at n.starts p k at), subst (IsStateOrNone m) (sym same) state)
      (refl, same) (λ z goes. ap (λ x. (x, q)) goes.0 ∙ ap (λ y. (z.0, y)) (same ∙ sym goes.1))

  pub starts_all : (pairs : List (ℕ × Option ℕ)) (k : ℕ) → length n.starts ≤ k → Gathers (IsPair n m) (IsAmong (StartsAt m) n.starts k) [] pairs → Gathers (IsPair n m) (IsStartPair n m) [] pairs
  starts_all pairs k all g =
      among_all g (IsStartPair n m) all (λ p y there goes. (subst (Contains n.starts) goes.0 there, goes.1)) (λ y is. (y.0, is.0, (refl, is.1)))

  module _ (flags : List Bool) (in_range : IsInRange n) (valid : IsValid m) (p : ℕ) (q : Option ℕ) (state : IsStateOrNone m q) where
    -- one more edge without a letter
    pub silent_more : (targets : List (ℕ × Option ℕ)) (k r : ℕ) → slice_get (edges_of n.states p) k ≡ Some (None, r)
        → slice_index_or flags r false ≡ false → Gathers (IsPair n m) (IsAmong (LeadsSilently flags q) (edges_of n.states p) k) [] targets
        → Gathers (IsPair n m) (IsAmong (LeadsSilently flags q) (edges_of n.states p) (k + 1)) [] (targets ++ (r, q) ∷ [])
    silent_more targets k r at live g =
        among_push g at (r, q) (in_range, valid, target_state in_range p None r (contains_at (edges_of n.states p) (None, r) k at), state) (refl, refl, live)
        (λ z goes. ap (λ x. (x, q)) (ap (λ (e : Option ℕ × ℕ). e.1) goes.0) ∙ ap (λ y. (z.0, y)) (sym goes.1))

    -- an edge with one, or to a flagged state
    pub silent_other : (targets : List (ℕ × Option ℕ)) (k : ℕ) (l : Option ℕ) (r : ℕ) → slice_get (edges_of n.states p) k ≡ Some (l, r)
        → (l ≡ None → slice_index_or flags r false ≡ false → ⊥)
        → Gathers (IsPair n m) (IsAmong (LeadsSilently flags q) (edges_of n.states p) k) [] targets
        → Gathers (IsPair n m) (IsAmong (LeadsSilently flags q) (edges_of n.states p) (k + 1)) [] targets
    silent_other targets k l r at other_edge g =
        among_other g at (λ z goes. other_edge (ap (λ (e : Option ℕ × ℕ). e.0) goes.0)
        (subst (λ x. slice_index_or flags x false ≡ false) (sym (ap (λ (e : Option ℕ × ℕ). e.1) goes.0)) goes.2))

    pub silent_all : (targets : List (ℕ × Option ℕ)) (k : ℕ) → length (edges_of n.states p) ≤ k → Gathers (IsPair n m) (IsAmong (LeadsSilently flags q) (edges_of n.states p) k) [] targets
        → Gathers (IsPair n m) (LiveEdge n m flags (p, q) None) [] targets
    silent_all targets k all g =
        among_all g (LiveEdge n m flags (p, q) None) all (λ e y there goes. ((subst (Contains (edges_of n.states p)) goes.0 there, goes.1), goes.2))
        (λ y is. ((None, y.0), is.0.0, (refl, is.0.1, is.1)))

    -- one more edge with a letter
    pub step_more : (old steps : List (ℕ × (ℕ × Option ℕ))) (k a r : ℕ) (next : Option ℕ) → next ≡ follow m q a → slice_get (edges_of n.states p) k ≡ Some (Some a, r)
        → slice_index_or flags r false ≡ false
        → Gathers {X = ℕ × (ℕ × Option ℕ)} (λ step. IsPair n m step.1) (IsAmong (LeadsByLetter flags m q) (edges_of n.states p) k) old steps
        → Gathers {X = ℕ × (ℕ × Option ℕ)} (λ step. IsPair n m step.1) (IsAmong (LeadsByLetter flags m q) (edges_of n.states p) (k + 1)) old (steps ++ (a, (r, next)) ∷ [])
    step_more old steps k a r next follows at live g =
        among_push g at (a, (r, next))
        (in_range, valid, target_state in_range p (Some a) r (contains_at (edges_of n.states p) (Some a, r) k at), subst (IsStateOrNone m) (sym follows) (follow-within m valid q a))
        (refl, follows, live) one
      where
        one : (z : ℕ × (ℕ × Option ℕ)) → LeadsByLetter flags m q (Some a, r) z → ◌≡◌ {A = ℕ × (ℕ × Option ℕ)} (a, (r, next)) z
        one z goes =
            let letter : a ≡ z.0 = same_Some a z.0 (ap (λ (e : Option ℕ × ℕ). e.0) goes.0) in
            let to : r ≡ z.1.0 = ap (λ (e : Option ℕ × ℕ). e.1) goes.0 in
            let on : next ≡ z.1.1 = follows ∙ ap (follow m q) letter ∙ sym goes.1 in
            ap (λ x. (x, (r, next))) letter ∙ ap (λ x. (z.0, (x, next))) to ∙ ap (λ y. (z.0, (z.1.0, y))) on

    -- an edge without one, or to a flagged state
    pub step_other : (old steps : List (ℕ × (ℕ × Option ℕ))) (k : ℕ) (l : Option ℕ) (r : ℕ) → slice_get (edges_of n.states p) k ≡ Some (l, r)
        → ((a : ℕ) → l ≡ Some a → slice_index_or flags r false ≡ false → ⊥)
        → Gathers {X = ℕ × (ℕ × Option ℕ)} (λ step. IsPair n m step.1) (IsAmong (LeadsByLetter flags m q) (edges_of n.states p) k) old steps
        → Gathers {X = ℕ × (ℕ × Option ℕ)} (λ step. IsPair n m step.1) (IsAmong (LeadsByLetter flags m q) (edges_of n.states p) (k + 1)) old steps
    step_other old steps k l r at other_edge g =
        among_other g at (λ z goes. other_edge z.0 (ap (λ (e : Option ℕ × ℕ). e.0) goes.0)
        (subst (λ x. slice_index_or flags x false ≡ false) (sym (ap (λ (e : Option ℕ × ℕ). e.1) goes.0)) goes.2))

    pub steps_all : (old steps : List (ℕ × (ℕ × Option ℕ))) (k : ℕ) → length (edges_of n.states p) ≤ k
        → Gathers {X = ℕ × (ℕ × Option ℕ)} (λ step. IsPair n m step.1) (IsAmong (LeadsByLetter flags m q) (edges_of n.states p) k) old steps
        → Gathers {X = ℕ × (ℕ × Option ℕ)} (λ step. IsPair n m step.1) (λ step. LiveEdge n m flags (p, q) (Some step.0) step.1) old steps
    steps_all old steps k all g =
        among_all g (λ step. LiveEdge n m flags (p, q) (Some step.0) step.1) all (λ e y there goes. ((subst (Contains (edges_of n.states p)) goes.0 there, goes.1), goes.2))
        (λ y is. ((Some y.0, y.1.0), is.0.0, (refl, is.0.1, is.1)))

-- a word outside an automaton without a state is any word
module _ (a : Automaton) (valid : IsValid a) (m : Automaton) (none : m.states ≡ []) where
  outside : (w : List ℕ) → IsTrue (accepts a w) → IsWordOfPairs (as_nondeterministic a) m false w
  outside w accepted = ((same_language a valid w).0 accepted, accepts-empty m none w)

  pub least_accepted : {X : Type 0} (items : X → List ℕ) (o : Option X)
      → MatchOption o ((w : List ℕ) → IsWordOfPairs (as_nondeterministic a) m false w → ⊥) (λ x. IsLeastWord (IsWordOfPairs (as_nondeterministic a) m false) (items x))
      → MatchOption o (AcceptsNothing a) (λ x. IsLeastAccepted a (items x))
  least_accepted items None nothing = λ w. by w (accepts a w) refl
    where
      by : (w : List ℕ) (b : Bool) → accepts a w ≡ b → accepts a w ≡ false
      by w false refused = refused
      by w true accepted = absurd (nothing w (outside w accepted))
  least_accepted items (Some x) least = ((same_language a valid (items x)).1 least.0.0, λ v accepted before. least.1 v (outside v accepted) before)
