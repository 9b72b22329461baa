-- The moves out of a set of states, edge by edge and in the order of their letters.
use Rattle.std.proofs.Common.{◌≡◌, ◌+◌, ◌-◌, ◌<◌, ◌≤◌, ◌⊎◌, ℕ, zero, suc, List, [], ◌∷◌, ◌++◌, Option, None, Some, Contains, length, take, get_or, refl, sym, ap, subst, ◌∙◌, inl, inr, arith}
use Rattle.std.proofs.lemmas.Bool.{cases_lt}
use Rattle.std.proofs.lemmas.Nat.{mod_below}
use Rattle.std.proofs.lemmas.List.{take_more, append_assoc, append-nil}
use Rattle.std.proofs.lemmas.List.Elements.{filter_map-append, Contains-push, Contains-push_cases, Contains-append_left, Contains-append_right, Contains-append_cases}
use Rattle.std.proofs.lemmas.Option.{some_pair_parts}
use Rattle.std.specs.List.{filter_map, flat_map, cons_option}
use Rattle.word_automata.specs.Path.{edges_of}
use Rattle.word_automata.specs.Nondeterministic.{NondeterministicAutomaton}
use Rattle.word_automata.proofs.ForCallers.{Contains-cases, Contains-here, Contains-there, Contains-none}
use Rattle.determinise.specs.private.Subsets.{lettered_move, moves_from, order_key, letter_of, HasOrderedLetters, IsRun}

-- one more edge
module _ (pre : List (ℕ × ℕ)) (edges : List (Option ℕ × ℕ)) (i : ℕ) (l : i < length edges) (done : List (ℕ × ℕ)) (h : done ≡ pre ++ filter_map lettered_move (take i edges)) where
  next_edge : (o : Option (ℕ × ℕ)) → lettered_move (get_or edges i (None, 0)) ≡ o → pre ++ filter_map lettered_move (take (i + 1) edges) ≡ done ++ cons_option o []
  next_edge o e =
      ap (λ xs. pre ++ filter_map lettered_move xs) (take_more edges i (None, 0) l)
      ∙ ap (λ xs. pre ++ xs) (filter_map-append lettered_move (take i edges) (get_or edges i (None, 0) ∷ []))
      ∙ sym (append_assoc pre (filter_map lettered_move (take i edges)) (filter_map lettered_move (get_or edges i (None, 0) ∷ [])))
      ∙ ap (λ xs. xs ++ cons_option (lettered_move (get_or edges i (None, 0))) []) (sym h)
      ∙ ap (λ p. done ++ cons_option p []) e

  pub lettered_more : (a : ℕ) → (get_or edges i (None, 0)).0 ≡ Some a → done ++ (a, (get_or edges i (None, 0)).1) ∷ [] ≡ pre ++ filter_map lettered_move (take (i + 1) edges)
  lettered_more a e =
      sym (next_edge (Some (a, (get_or edges i (None, 0)).1))
      (ap (λ o. elim o as (λ o. Option (ℕ × ℕ)) [ None ↦ None | Some b ↦ Some (b, (get_or edges i (None, 0)).1) ]) e))

  pub silent_more : (get_or edges i (None, 0)).0 ≡ None → done ≡ pre ++ filter_map lettered_move (take (i + 1) edges)
  silent_more e =
      sym (next_edge None (ap (λ o. elim o as (λ o. Option (ℕ × ℕ)) [ None ↦ None | Some b ↦ Some (b, (get_or edges i (None, 0)).1) ]) e) ∙ append-nil done)

module _ {X Y : Type 0} (f : X → List Y) where
  flat_map-member : (xs : List X) (x : X) (y : Y) → Contains xs x → Contains (f x) y → Contains (flat_map f xs) y
  flat_map-member [] x y h k = absurd (Contains-none x h)
  flat_map-member (z ∷ xs) x y h k = elim (Contains-cases z xs x h) [
    | inl e ↦ Contains-append_left (f z) (flat_map f xs) y (subst (λ w. Contains (f w) y) (sym e) k)
    | inr there ↦ Contains-append_right (f z) (flat_map f xs) y (flat_map-member xs x y there k)
  ]

  flat_map-cases : (xs : List X) (y : Y) → Contains (flat_map f xs) y → (x : X) × Contains xs x × Contains (f x) y
  flat_map-cases [] y h = absurd (Contains-none y h)
  flat_map-cases (z ∷ xs) y h = elim (Contains-append_cases (f z) (flat_map f xs) y h) [
    | inl here ↦ (z, Contains-here xs z, here)
    | inr there ↦ let rest = flat_map-cases xs y there in (rest.0, Contains-there z xs rest.0 rest.1, rest.2)
  ]

module _ {X Y : Type 0} (f : X → Option Y) where
  filter_map-here : (z : X) (xs : List X) (y : Y) → f z ≡ Some y → filter_map f (z ∷ xs) ≡ y ∷ filter_map f xs
  filter_map-here z xs y e = ap (λ o. cons_option o (filter_map f xs)) e

  filter_map-member : (xs : List X) (x : X) (y : Y) → Contains xs x → f x ≡ Some y → Contains (filter_map f xs) y
  filter_map-member [] x y h e = absurd (Contains-none x h)
  filter_map-member (z ∷ xs) x y h e = by (Contains-cases z xs x h) (filter_map-member xs x y) (f z) refl
    where
      by : (z ≡ x) ⊎ Contains xs x → (Contains xs x → f x ≡ Some y → Contains (filter_map f xs) y) → (o : Option Y) → f z ≡ o → Contains (filter_map f (z ∷ xs)) y
      by (inl same) again o k =
          subst (λ ys. Contains ys y) (sym (filter_map-here z xs y (ap f same ∙ e))) (Contains-here (filter_map f xs) y)
      by (inr there) again None k = subst (λ o. Contains (cons_option o (filter_map f xs)) y) (sym k) (again there e)
      by (inr there) again (Some w) k = subst (λ o. Contains (cons_option o (filter_map f xs)) y) (sym k) (Contains-there w (filter_map f xs) y (again there e))

  filter_map-cases : (xs : List X) (y : Y) → Contains (filter_map f xs) y → (x : X) × Contains xs x × (f x ≡ Some y)
  filter_map-cases [] y h = absurd (Contains-none y h)
  filter_map-cases (z ∷ xs) y h = by (filter_map-cases xs y) (f z) refl
    where
      later : (x : X) × Contains xs x × (f x ≡ Some y) → (x : X) × Contains (z ∷ xs) x × (f x ≡ Some y)
      later rest = (rest.0, Contains-there z xs rest.0 rest.1, rest.2)

      by : (Contains (filter_map f xs) y → (x : X) × Contains xs x × (f x ≡ Some y)) → (o : Option Y) → f z ≡ o → (x : X) × Contains (z ∷ xs) x × (f x ≡ Some y)
      by again None k = later (again (subst (λ o. Contains (cons_option o (filter_map f xs)) y) k h))
      by again (Some w) k = elim (Contains-cases w (filter_map f xs) y (subst (λ o. Contains (cons_option o (filter_map f xs)) y) k h)) [
        | inl e ↦ (z, Contains-here xs z, k ∙ ap Some e)
        | inr there ↦ later (again there)
      ]

lettered_move-edge : (edge : Option ℕ × ℕ) (a q : ℕ) → lettered_move edge ≡ Some (a, q) → edge ≡ (Some a, q)
lettered_move-edge edge a q h = by edge.0 edge.1 h
  where
    by : (o : Option ℕ) (to : ℕ) → (elim o as (λ o. Option (ℕ × ℕ)) [ None ↦ None | Some b ↦ Some (b, to) ]) ≡ Some (a, q) → ◌≡◌ {A = Option ℕ × ℕ} (o, to) (Some a, q)
    by None to k = cc
    by (Some b) to k = let e = some_pair_parts b a to q k in λ i. (Some (e.0 i), e.1 i)

module _ (n : NondeterministicAutomaton) (states : List ℕ) (a q : ℕ) where
  -- an edge with a letter out of one of the states is a move
  pub moves_from-edge : (p : ℕ) → Contains states p → Contains (edges_of n.states p) (Some a, q) → Contains (moves_from n states) (a, q)
  moves_from-edge p there edge =
      flat_map-member (λ p. filter_map lettered_move (edges_of n.states p)) states p (a, q) there
      (filter_map-member lettered_move (edges_of n.states p) (Some a, q) (a, q) edge refl)

  -- a move is such an edge
  pub edge-moves_from : Contains (moves_from n states) (a, q) → (p : ℕ) × Contains states p × Contains (edges_of n.states p) (Some a, q)
  edge-moves_from h =
      let state = flat_map-cases (λ p. filter_map lettered_move (edges_of n.states p)) states (a, q) h in
      let edge = filter_map-cases lettered_move (edges_of n.states state.0) (a, q) state.2 in
      (state.0, state.1, subst (Contains (edges_of n.states state.0)) (lettered_move-edge edge.0 a q edge.2) edge.1)

-- what the order of keys says of the letters
pub letter_from_key : (m n : ℕ × ℕ) → order_key m ≤ order_key n → m.0 ≤ n.0
letter_from_key m n h =
    let low = mod_below m.1 4294967296 (omega arith) in
    let high = mod_below n.1 4294967296 (omega arith) in
    omega arith

module _ (moves : List (ℕ × ℕ)) (ordered : HasOrderedLetters moves) where
  letters_le : (i d : ℕ) → i + d < length moves → letter_of moves i ≤ letter_of moves (i + d)
  letters_le i zero h = subst (λ k. letter_of moves i ≤ letter_of moves k) (let e : i ≡ i + 0 = omega arith in e) (omega arith)
  letters_le i (suc d) h =
      let before = letters_le i d (omega arith) in
      let step = ordered (i + d) (omega arith) in
      let e : (i + d) + 1 ≡ i + suc d = omega arith in
      subst (λ k. letter_of moves i ≤ letter_of moves k) e (omega arith)

  letters_ordered : (i j : ℕ) → i ≤ j → j < length moves → letter_of moves i ≤ letter_of moves j
  letters_ordered i j h l = let e : i + (j - i) ≡ j = omega arith in subst (λ k. letter_of moves i ≤ letter_of moves k) e (letters_le i (j - i) (omega arith))

  -- a run ends where another letter comes
  pub run_ends : (at end : ℕ) → at < end → end < length moves → ((k : ℕ) → at ≤ k → k < end → letter_of moves k ≡ letter_of moves at)
      → (letter_of moves end ≡ letter_of moves at → ⊥) → IsRun moves at end
  run_ends at end some within same other = record {
    some = some;
    within = omega arith;
    same = same;
    later = λ k l m.
        let a = letters_ordered at end (omega arith) within in
        let b = letters_ordered end k l m in
        elim (cases_lt (letter_of moves at) (letter_of moves end)) [
          | inl less ↦ omega arith
          | inr more ↦ absurd (other (omega arith))
        ];
  }

-- the list has the targets of the first i moves, and targets of moves alone
pub record HasTargets (moves : List (ℕ × ℕ)) (targets : List ℕ) (i : ℕ) : Type 0 where
  pub added : (k : ℕ) → k < i → Contains targets (get_or moves k (0, 0)).1
  pub only : (q : ℕ) → Contains targets q → (k : ℕ) × (k < length moves) × ((get_or moves k (0, 0)).1 ≡ q)

module _ (moves : List (ℕ × ℕ)) (targets : List ℕ) (i : ℕ) (h : HasTargets moves targets i) where
  pub targets_same : Contains targets (get_or moves i (0, 0)).1 → HasTargets moves targets (i + 1)
  targets_same there = record {
    added = λ k l. elim (cases_lt k i) [
      | inl less ↦ h.added k less
      | inr more ↦ let e : i ≡ k = omega arith in subst (λ x. Contains targets (get_or moves x (0, 0)).1) e there
    ];
    only = h.only;
  }

  pub targets_more : i < length moves → HasTargets moves (targets ++ (get_or moves i (0, 0)).1 ∷ []) (i + 1)
  targets_more within = record {
    added = λ k l. elim (cases_lt k i) [
      | inl less ↦ Contains-append_left targets ((get_or moves i (0, 0)).1 ∷ []) (get_or moves k (0, 0)).1 (h.added k less)
      | inr more ↦
          let e : i ≡ k = omega arith in
          subst (λ x. Contains (targets ++ (get_or moves i (0, 0)).1 ∷ []) (get_or moves x (0, 0)).1) e (Contains-push targets (get_or moves i (0, 0)).1)
    ];
    only = λ q there. elim (Contains-push_cases targets (get_or moves i (0, 0)).1 q there) [
      | inl old ↦ h.only q old
      | inr e ↦ (i, within, e)
    ];
  }
