-- Lemmas on the machines for moves that change two positions.
use Rattle.std.proofs.Common.{◌≡◌, ◌↔◌, ℕ, ◌+◌, ◌-◌, ◌<◌, ◌≤◌, false, List, [], ◌∷◌, ◌++◌, Contains, refl, sym, ap, ◌∙◌, subst, inl}
use Rattle.std.proofs.Common.{inr, arith, IsTrue, ◌⊎◌, true≢false, All, get_or, length}
use Rattle.std.specs.List.{AllByRecursion, range_with_len}
use Rattle.std.proofs.lemmas.List.Elements.{All-from_recursion, All-append, All-map, Contains-append_cases, Contains-get_or}
use Rattle.word_automata.specs.Path.{Node, edges_of, is_accepting}
use Rattle.transducers.specs.declared.Label.{Label}
use Rattle.transducers.specs.Transducer.{IsValid, Relates}
use Rattle.transducers.specs.Combination.{exchange, copy_edge, copy_edges}
use Rattle.transducers.proofs.ForCallers.{Contains-range_cases, Contains-single, nothing_in_nil}
use Rattle.protocol_syntax.specs.declared.protocol.Move.TheVariants.{Pair, Ring, Two}
use Rattle.protocol_model.specs.System.{Move, AllBelow, IsValidMove}
use Rattle.protocol_model.specs.Moves.{IsMove, IsPairMove, IsRingMove, IsTwoMove, ChangesTwo}
use Rattle.protocol_model.specs.Raised.{IsRaisedMove}
use Rattle.protocol_model.proofs.ForCallers.{AllBelow-left, AllBelow-right}
use Rattle.array_moves.specs.private.Fixed.{exchange_edge, pair_states, ring_states, two_states, fixed_states, ChangesTwoPositions}
use Rattle.array_moves.proofs.LetterLemmas.{nothing_below_zero, same_exchange, ExchangesLetters, HasLetters, Changes, machine}
use Rattle.array_moves.proofs.LetterLemmas.{Relates-raised, edges_valid, Leaves, leave, stay, enter}

-- an edge of a list of one or two
Contains-first : {X : Type 0} (x : X) (xs : List X) → Contains (x ∷ xs) x
Contains-first x xs = (0, omega arith, refl)

Contains-second : {X : Type 0} (x y : X) (xs : List X) → Contains (x ∷ (y ∷ xs)) y
Contains-second x y xs = (1, omega arith, refl)

Contains-pair : {X : Type 0} (x y z : X) → Contains (x ∷ y ∷ []) z → (x ≡ z) ⊎ (y ≡ z)
Contains-pair x y z h = elim (Contains-append_cases (x ∷ []) (y ∷ []) z h)
    [ inl a ↦ inl (Contains-single x z a) | inr b ↦ inr (Contains-single y z b) ]

same_edge : (offset a c to x y q : ℕ) → exchange_edge offset a c to ≡ (exchange (x + offset) (y + offset), q) → (a ≡ x) × (c ≡ y) × (to ≡ q)
same_edge offset a c to x y q e = let l = same_exchange a c x y offset (ap (λ v. v.0) e) in (l.0, l.1, ap (λ v. v.1) e)

-- the edges of a state that copies letters and has further edges exchange letters of the section
module _ (offset count n : ℕ) where
  further : (x y to : ℕ) → x < count → y < count → to < n → ExchangesLetters offset count n (exchange_edge offset x y to)
  further x y to hx hy ht = record { old = x; new = y; old_in_range = hx; new_in_range = hy; label = refl; target_in_range = ht }

  node_letters : (copies to : ℕ) (edges : List (Label × ℕ)) → copies ≤ count → to < n → AllByRecursion (ExchangesLetters offset count n) edges
      → All (ExchangesLetters offset count n) (copy_edges offset copies to ++ edges)
  node_letters copies to edges le ht each =
      All-append (ExchangesLetters offset count n) (copy_edges offset copies to) edges
      (All-map (ExchangesLetters offset count n) (copy_edge to) (range_with_len offset copies) (λ k d lt.
      let a = Contains-range_cases offset copies _ (Contains-get_or (range_with_len offset copies) k d lt) in
      copied (get_or (range_with_len offset copies) k d) a.0 a.1))
      (All-from_recursion (ExchangesLetters offset count n) edges each)
    where
      copied : (a : ℕ) → offset ≤ a → a < offset + copies → ExchangesLetters offset count n (copy_edge to a)
      copied a low high =
          let x : a - offset < count = omega (arith, low, high, le) in
          let is : (a - offset) + offset ≡ a = omega (arith, low) in
          record { old = a - offset; new = a - offset; old_in_range = x; new_in_range = x; label = λ i. exchange (sym is i) (sym is i); target_in_range = ht }

-- an exchange at the same place in equal lists
cut_is : (s before : List ℕ) (x a : ℕ) (rest rest' : List ℕ) → s ≡ before ++ x ∷ rest → a ≡ x → rest ≡ rest' → s ≡ before ++ a ∷ rest'
cut_is s before x a rest rest' e ax r = e ∙ (λ i. before ++ sym ax i ∷ r i)

first_is : (s before : List ℕ) (x a : ℕ) (rest rest' : List ℕ) → AllBelow 0 before → s ≡ before ++ x ∷ rest → a ≡ x → rest ≡ rest' → s ≡ a
    ∷ rest'
first_is s before x a rest rest' h e ax r = let nil = nothing_below_zero before h in e ∙ (λ i. nil i ++ sym ax i ∷ r i)

-- the rest of a list in range, behind a cut
after_below : (count : ℕ) (before after : List ℕ) (x : ℕ) → AllBelow count (before ++ x ∷ after) → AllBelow count after
after_below count before after x h = let r = AllBelow-right count before (x ∷ after) h in r.1

-- a machine's states with no further edges, where all is copied
module _ (offset : ℕ) (states : List (Node Label)) (p n : ℕ) (edges : edges_of states p ≡ copy_edges offset n p ++ []) where
  only_stays : (s t : List ℕ) → Changes offset states p s t → (s ≡ t) × AllBelow n s
  only_stays s t h = by (leave offset states p n [] edges s t h)
    where
      by : ((s ≡ t) × AllBelow n s × IsTrue (is_accepting states p)) ⊎ Leaves offset states n [] s t → (s ≡ t) × AllBelow n s
      by (inl e) = (e.0, e.1)
      by (inr l) = nothing_in_nil _ l.edge

-- what a state does that does not accept, copies n letters and has one further edge
record LeavesBy (offset : ℕ) (states : List (Node Label)) (n x y q : ℕ) (s t : List ℕ) : Type 0 where
  before : List ℕ
  before_in_range : AllBelow n before
  old_rest : List ℕ
  new_rest : List ℕ
  was : s ≡ before ++ x ∷ old_rest
  becomes : t ≡ before ++ y ∷ new_rest
  rest : Changes offset states q old_rest new_rest

module _ (offset : ℕ) (states : List (Node Label)) (p n x y q : ℕ) where
  leaves_by : (further : List (Label × ℕ)) (s t : List ℕ) (l : Leaves offset states n further s t)
      → exchange_edge offset x y q ≡ (exchange (l.x + offset) (l.y + offset), l.q) → LeavesBy offset states n x y q s t
  leaves_by further s t l e =
      let same = same_edge offset x y q l.x l.y l.q e in
      record {
        before = l.before;
        before_in_range = l.before_in_range;
        old_rest = l.old_rest;
        new_rest = l.new_rest;
        was = cut_is s l.before l.x x l.old_rest l.old_rest l.was same.0 refl;
        becomes = cut_is t l.before l.y y l.new_rest l.new_rest l.becomes same.1 refl;
        rest = subst (λ r. Changes offset states r l.old_rest l.new_rest) (sym same.2) l.rest;
      }

  only_leaves : edges_of states p ≡ copy_edges offset n p ++ (exchange_edge offset x y q ∷ []) → is_accepting states p ≡ false
      → (s t : List ℕ) → Changes offset states p s t → LeavesBy offset states n x y q s t
  only_leaves edges refuses s t h = by (leave offset states p n (exchange_edge offset x y q ∷ []) edges s t h)
    where
      by : ((s ≡ t) × AllBelow n s × IsTrue (is_accepting states p)) ⊎ Leaves offset states n (exchange_edge offset x y q ∷ []) s t
          → LeavesBy offset states n x y q s t
      by (inl e) = absurd (true≢false (sym e.2 ∙ refuses))
      by (inr l) = leaves_by (exchange_edge offset x y q ∷ []) s t l (Contains-single (exchange_edge offset x y q) _ l.edge)

module _ (a b c d offset count : ℕ) (valid : AllBelow count (a ∷ b ∷ c ∷ d ∷ [])) where
  left : (n to : ℕ) → to < n → ExchangesLetters offset count n (exchange_edge offset a c to)
  left n to h = further offset count n a c to valid.0 valid.1.1.0 h

  right : (n to : ℕ) → to < n → ExchangesLetters offset count n (exchange_edge offset b d to)
  right n to h = further offset count n b d to valid.1.0 valid.1.1.1.0 h

  pair_letters : HasLetters offset count (pair_states a b c d offset count)
  pair_letters = All-from_recursion (λ node. All (ExchangesLetters offset count 3) node.edges) (pair_states a b c d offset count) (
    node_letters offset count 3 count 0 (exchange_edge offset a c 1 ∷ []) (omega arith) (omega arith) (left 3 1 (omega arith), tt),
    (
      node_letters offset count 3 0 1 (exchange_edge offset b d 2 ∷ []) (omega arith) (omega arith) (right 3 2 (omega arith), tt),
      (node_letters offset count 3 count 2 [] (omega arith) (omega arith) tt, tt),
    ),
  )

  ring_letters : HasLetters offset count (ring_states a b c d offset count)
  ring_letters = All-from_recursion (λ node. All (ExchangesLetters offset count 3) node.edges) (ring_states a b c d offset count) (
    node_letters offset count 3 0 0 (exchange_edge offset b d 1 ∷ []) (omega arith) (omega arith) (right 3 1 (omega arith), tt),
    (
      node_letters offset count 3 count 1 (exchange_edge offset a c 2 ∷ []) (omega arith) (omega arith) (left 3 2 (omega arith), tt),
      (node_letters offset count 3 0 2 [] (omega arith) (omega arith) tt, tt),
    ),
  )

  two_has_letters : HasLetters offset count (two_states a b c d offset count)
  two_has_letters = All-from_recursion (λ node. All (ExchangesLetters offset count 4) node.edges) (two_states a b c d offset count) (
    node_letters offset count 4 count 0 (exchange_edge offset a c 1 ∷ exchange_edge offset b d 2 ∷ []) (omega arith) (omega arith)
        (left 4 1 (omega arith), (right 4 2 (omega arith), tt)),
    (
      node_letters offset count 4 count 1 (exchange_edge offset b d 3 ∷ []) (omega arith) (omega arith) (right 4 3 (omega arith), tt),
      (
        node_letters offset count 4 count 2 (exchange_edge offset a c 3 ∷ []) (omega arith) (omega arith) (left 4 3 (omega arith), tt),
        (node_letters offset count 4 count 3 [] (omega arith) (omega arith) tt, tt),
      ),
    ),
  )

  pair_there : (s t : List ℕ) → Changes offset (pair_states a b c d offset count) 0 s t → IsPairMove a b c d s t
  pair_there s t h =
      let states = pair_states a b c d offset count in
      let first = only_leaves offset states 0 count a c 1 refl refl s t h in
      let second = only_leaves offset states 1 0 b d 2 refl refl first.old_rest first.new_rest first.rest in
      let third = only_stays offset states 2 count refl second.old_rest second.new_rest second.rest in
      record {
        before = first.before;
        after = second.old_rest;
        was = first.was ∙ ap (λ r. first.before ++ a
            ∷ r) (first_is first.old_rest second.before b b second.old_rest second.old_rest second.before_in_range second.was refl refl);
        becomes = first.becomes ∙ ap (λ r. first.before ++ c
            ∷ r) (first_is first.new_rest second.before d d second.new_rest second.old_rest second.before_in_range second.becomes refl
            (sym third.0));
      }

  pair_back : (s t : List ℕ) → AllBelow count s → IsPairMove a b c d s t
      → Changes offset (pair_states a b c d offset count) 0 s t
  pair_back s t hs m =
      let states = pair_states a b c d offset count in
      let whole : AllBelow count (m.before ++ a ∷ (b ∷ m.after)) = subst (AllBelow count) m.was hs in
      let before = AllBelow-left count m.before (a ∷ (b ∷ m.after)) whole in
      let after = (after_below count m.before (b ∷ m.after) a whole).1 in
      let third = stay offset states 2 count [] refl m.after after refl in
      let second = enter offset states 1 0 (exchange_edge offset b d 2
      ∷ []) refl [] b d 2 m.after m.after tt (Contains-first _ []) third in
      let first = enter offset states 0 count (exchange_edge offset a c 1 ∷ []) refl m.before a c 1 (b
      ∷ m.after) (d ∷ m.after) before (Contains-first _ []) second in
      subst (λ v. Changes offset states 0 v t) (sym m.was)
      (subst (λ v. Changes offset states 0 (m.before ++ a ∷ (b ∷ m.after)) v) (sym m.becomes) first)

  ring_there : (s t : List ℕ) → Changes offset (ring_states a b c d offset count) 0 s t → IsRingMove a b c d s t
  ring_there s t h =
      let states = ring_states a b c d offset count in
      let first = only_leaves offset states 0 0 b d 1 refl refl s t h in
      let second = only_leaves offset states 1 count a c 2 refl refl first.old_rest first.new_rest first.rest in
      let third = only_stays offset states 2 0 refl second.old_rest second.new_rest second.rest in
      let old_end = nothing_below_zero second.old_rest third.1 in
      record {
        between = second.before;
        was = first_is s first.before b b first.old_rest (second.before ++ a ∷ []) first.before_in_range first.was refl (second.was
            ∙ ap (λ r. second.before ++ a ∷ r) old_end);
        becomes = first_is t first.before d d first.new_rest (second.before ++ c
            ∷ []) first.before_in_range first.becomes refl (second.becomes ∙ ap (λ r. second.before ++ c ∷ r) (sym third.0 ∙ old_end));
      }

  ring_back : (s t : List ℕ) → AllBelow count s → IsRingMove a b c d s t
      → Changes offset (ring_states a b c d offset count) 0 s t
  ring_back s t hs m =
      let states = ring_states a b c d offset count in
      let whole : AllBelow count (b ∷ (m.between ++ a ∷ [])) = subst (AllBelow count) m.was hs in
      let between = AllBelow-left count m.between (a ∷ []) whole.1 in
      let third = stay offset states 2 0 [] refl [] tt refl in
      let second = enter offset states 1 count (exchange_edge offset a c 2
      ∷ []) refl m.between a c 2 [] [] between (Contains-first _ []) third in
      let first = enter offset states 0 0 (exchange_edge offset b d 1 ∷ []) refl [] b d 1 (m.between ++ a
      ∷ []) (m.between ++ c ∷ []) tt (Contains-first _ []) second in
      subst (λ v. Changes offset states 0 v t) (sym m.was)
      (subst (λ v. Changes offset states 0 (b ∷ (m.between ++ a ∷ [])) v) (sym m.becomes) first)

  -- behind the first change, the second one
  two_rest : (x y x' y' q : ℕ) (s t : List ℕ) → LeavesBy offset (two_states a b c d offset count) count x y q s t
      → edges_of (two_states a b c d offset count) q ≡ copy_edges offset count q ++ (exchange_edge offset x' y' 3 ∷ [])
      → is_accepting (two_states a b c d offset count) q ≡ false → ChangesTwo x x' y y' s t
  two_rest x y x' y' q s t first edges refuses =
      let states = two_states a b c d offset count in
      let second = only_leaves offset states q count x' y' 3 edges refuses first.old_rest first.new_rest
      first.rest in
      let third = only_stays offset states 3 count refl second.old_rest second.new_rest second.rest in
      record {
        before = first.before;
        between = second.before;
        after = second.old_rest;
        was = first.was ∙ ap (λ r. first.before ++ x ∷ r) second.was;
        becomes = first.becomes ∙ ap (λ r. first.before ++ y ∷ r) (second.becomes ∙ ap (λ r. second.before ++ y' ∷ r) (sym third.0));
      }

  two_there : (s t : List ℕ) → Changes offset (two_states a b c d offset count) 0 s t → IsTwoMove a b c d s t
  two_there s t h = by (leave offset (two_states a b c d offset count) 0 count (exchange_edge offset a c 1 ∷ exchange_edge offset b d 2
      ∷ []) refl s t h)
    where
      by : ((s ≡ t) × AllBelow count s × IsTrue (is_accepting (two_states a b c d offset count) 0))
          ⊎ Leaves offset (two_states a b c d offset count) count (exchange_edge offset a c 1 ∷ exchange_edge offset b d 2 ∷ []) s t
          → IsTwoMove a b c d s t
      by (inl e) = absurd (true≢false (sym e.2))
      by (inr l) = elim (Contains-pair (exchange_edge offset a c 1) (exchange_edge offset b d 2) _ l.edge) [
        | inl e ↦ inl (two_rest a c b d 1 s t (leaves_by offset (two_states a b c d offset count) 0 count a c 1 _ s t l e) refl refl)
        | inr e ↦ inr (two_rest b d a c 2 s t (leaves_by offset (two_states a b c d offset count) 0 count b d 2 _ s t l e) refl refl)
      ]

  two_enter : (x y x' y' q : ℕ) (s t : List ℕ) → AllBelow count s → ChangesTwo x x' y y' s t
      → edges_of (two_states a b c d offset count) q ≡ copy_edges offset count q ++ (exchange_edge offset x' y' 3 ∷ [])
      → Contains (exchange_edge offset a c 1 ∷ exchange_edge offset b d 2 ∷ []) (exchange_edge offset x y q)
      → Changes offset (two_states a b c d offset count) 0 s t
  two_enter x y x' y' q s t hs m edges first_edge =
      let states = two_states a b c d offset count in
      let whole : AllBelow count (m.before ++ x ∷ (m.between ++ x' ∷ m.after)) = subst (AllBelow count) m.was hs in
      let before = AllBelow-left count m.before (x ∷ (m.between ++ x' ∷ m.after)) whole in
      let rest = after_below count m.before (m.between ++ x' ∷ m.after) x whole in
      let between = AllBelow-left count m.between (x' ∷ m.after) rest in
      let after = after_below count m.between m.after x' rest in
      let third = stay offset states 3 count [] refl m.after after refl in
      let second = enter offset states q count (exchange_edge offset x' y' 3
      ∷ []) edges m.between x' y' 3 m.after m.after between (Contains-first _ []) third in
      let first = enter offset states 0 count (exchange_edge offset a c 1 ∷ exchange_edge offset b d 2
      ∷ []) refl m.before x y q (m.between ++ x' ∷ m.after) (m.between ++ y' ∷ m.after) before first_edge second in
      subst (λ v. Changes offset states 0 v t) (sym m.was)
      (subst (λ v. Changes offset states 0 (m.before ++ x ∷ (m.between ++ x' ∷ m.after)) v) (sym m.becomes)
      first)

  two_back : (s t : List ℕ) → AllBelow count s → IsTwoMove a b c d s t
      → Changes offset (two_states a b c d offset count) 0 s t
  two_back s t hs (inl m) = two_enter a c b d 1 s t hs m refl
      (Contains-first (exchange_edge offset a c 1) (exchange_edge offset b d 2 ∷ []))
  two_back s t hs (inr m) = two_enter b d a c 2 s t hs m refl
      (Contains-second (exchange_edge offset a c 1) (exchange_edge offset b d 2) [])

-- the transducer of the states is a valid one over so many letters, and relates what the move does
abbrev IsMachineOf : (List ℕ → List ℕ → Type 0) → ℕ → ℕ → ℕ → List (Node Label) → Type 0
IsMachineOf moves offset count letters states =
    IsValid (machine letters states) × ((u w : List ℕ) → Relates (machine letters states) u w ↔ IsRaisedMove moves offset count u w)

is_machine : (moves : List ℕ → List ℕ → Type 0) (offset count letters : ℕ) (states : List (Node Label)) → HasLetters offset count states
    → 0 < length states → offset + count ≤ letters → ((s t : List ℕ) → Changes offset states 0 s t → moves s t)
    → ((s t : List ℕ) → AllBelow count s → moves s t → Changes offset states 0 s t) → IsMachineOf moves offset count letters states
is_machine moves offset count letters states has some fits there back = (
  record {
    starts_in_range = All-from_recursion (λ q. q < length states) (0 ∷ []) (some, tt);
    edges_in_range = edges_valid offset count states has letters fits;
  },
  Relates-raised offset count states has letters moves there back,
)

-- the machine of a move that changes two positions
pub fixed_machine : (m : Move) (offset count letters : ℕ) → ChangesTwoPositions m → IsValidMove count m → offset + count ≤ letters
    → IsMachineOf (IsMove m) offset count letters (fixed_states m offset count)
fixed_machine (Pair a b c d) offset count letters two valid fits =
    is_machine (IsPairMove a b c d) offset count letters (pair_states a b c d offset count) (pair_letters a b c d offset count valid.in_range)
    (omega arith) fits (pair_there a b c d offset count valid.in_range) (pair_back a b c d offset count valid.in_range)
fixed_machine (Ring a b c d) offset count letters two valid fits =
    is_machine (IsRingMove a b c d) offset count letters (ring_states a b c d offset count) (ring_letters a b c d offset count valid.in_range)
    (omega arith) fits (ring_there a b c d offset count valid.in_range) (ring_back a b c d offset count valid.in_range)
fixed_machine (Two a b c d) offset count letters two valid fits =
    is_machine (IsTwoMove a b c d) offset count letters (two_states a b c d offset count) (two_has_letters a b c d offset count valid.in_range)
    (omega arith) fits (two_there a b c d offset count valid.in_range) (two_back a b c d offset count valid.in_range)
fixed_machine _ offset count letters two valid fits = absurd two
