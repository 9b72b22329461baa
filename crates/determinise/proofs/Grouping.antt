-- The successors of a set of states, run by run of moves with one letter.
use Rattle.std.proofs.Common.{◌≡◌, ◌+◌, ◌-◌, ◌<◌, ◌≤◌, ◌↔◌, ℕ, List, [], ◌∷◌, ◌++◌, None, Some, Contains, All, length, take, drop, get_or, map, sym, ap, subst, ◌∙◌, inl, inr, arith}
use Rattle.std.proofs.lemmas.Bool.{cases_eq, cases_lt}
use Rattle.std.proofs.lemmas.List.{get_or-take, get_or-drop, length-take, length-drop, get_or_default}
use Rattle.std.proofs.lemmas.List.Elements.{All-push, Contains-get_or}
use Rattle.word_automata.specs.Path.{edges_of}
use Rattle.word_automata.specs.Nondeterministic.{NondeterministicAutomaton, AcceptsFromAny}
use Rattle.word_automata.specs.StateSets.{AreStates, IsStep}
use Rattle.word_automata.proofs.ForCallers.{Contains-none, Contains-map, Contains-map_cases, All-from_contains, step_accepts}
use Rattle.word_automata.proofs.ForCallers.{closure_accepts, move_within}
use Rattle.exploration.specs.DeterministicSystem.{look_up, HasIncreasingLetters}
use Rattle.exploration.specs.Residuals.{AreResiduals}
use Rattle.exploration.proofs.ForCallers.{look_up-above, look_up-below, look_up-push_same, look_up-push_other}
use Rattle.bit_subsets.specs.Subsets.{IsSubset}
use Rattle.bit_subsets.proofs.ForCallers.{increasing_push, letter_within}
use Rattle.determinise.specs.private.Subsets.{IsSubsetFrom, letter_of, AreOrderedMoves, IsRun}
use Rattle.determinise.proofs.MoveLists.{moves_from-edge, edge-moves_from}

-- the moves of a run
abbrev pub run_of : List (ℕ × ℕ) → ℕ → ℕ → List (ℕ × ℕ)
run_of moves at end = take (end - at) (drop at moves)

run_of-at : (moves : List (ℕ × ℕ)) (at end k : ℕ) (d : ℕ × ℕ) → k < end - at → get_or (run_of moves at end) k d ≡ get_or moves (at + k) d
run_of-at moves at end k d l = get_or-take (end - at) (drop at moves) k d l ∙ get_or-drop at moves k d

run_of-length : (moves : List (ℕ × ℕ)) (at end : ℕ) → end ≤ length moves → length (run_of moves at end) ≡ end - at
run_of-length moves at end l = simp (length-take, length-drop) (omega arith)

letter_of-move : (moves : List (ℕ × ℕ)) (k a q : ℕ) → k < length moves → get_or moves k (a, q) ≡ (a, q) → letter_of moves k ≡ a
letter_of-move moves k a q l e = ap (λ (move : ℕ × ℕ). move.0) (get_or_default moves k (0, 0) (a, q) l ∙ e)

module _ (n : NondeterministicAutomaton) (states : List ℕ) (subset : IsSubset n states) (moves : List (ℕ × ℕ)) (m : AreOrderedMoves n states moves) where
  -- the pairs are the successors under the letters of the moves before place at
  pub record IsGrouped (pairs : List (ℕ × List ℕ)) (at : ℕ) : Type 0 where
    pub within : at ≤ length moves
    pub increasing : HasIncreasingLetters pairs
    pub letters_in_range : All (λ pair. pair.0 < n.letters) pairs
    pub subsets : All (λ pair. IsSubset n pair.1) pairs
    pub goes_on : (a : ℕ) (r : List ℕ) → look_up pairs a ≡ Some r → (w : List ℕ) → AcceptsFromAny n states (a ∷ w) ↔ AcceptsFromAny n r w
    pub covered : (k : ℕ) → k < at → (r : List ℕ) × (look_up pairs (letter_of moves k) ≡ Some r)
    pub below : (k : ℕ) → at ≤ k → k < length moves → All (λ pair. pair.0 < letter_of moves k) pairs

  move_edge : (a q : ℕ) → Contains moves (a, q) → (p : ℕ) × Contains states p × Contains (edges_of n.states p) (Some a, q)
  move_edge a q there = edge-moves_from n states a q (m.from (a, q) there)

  move_at : (k : ℕ) → k < length moves → Contains moves (get_or moves k (0, 0))
  move_at k l = Contains-get_or moves k (0, 0) l

  letter_in_range : (k : ℕ) → k < length moves → letter_of moves k < n.letters
  letter_in_range k l =
      let move = get_or moves k (0, 0) in
      let edge = move_edge move.0 move.1 (move_at k l) in
      letter_within n subset.in_range edge.0 move.0 move.1 edge.2

  -- the targets of moves are states
  pub targets_are_states : (at end : ℕ) → end ≤ length moves → AreStates n (map (λ move. move.1) (run_of moves at end))
  targets_are_states at end l = All-from_contains (λ q. q < length n.states) (map (λ move. move.1) (run_of moves at end)) (λ q there.
      let move = Contains-map_cases (λ move. move.1) (run_of moves at end) q there in
      let place = move.1 in
      let inside : place.0 < end - at = (let c = run_of-length moves at end l in let b = place.1 in omega arith) in
      let here : Contains moves move.0 = (at + place.0, (omega arith), sym (run_of-at moves at end place.0 move.0 inside) ∙ place.2) in
      let edge = move_edge move.0.0 move.0.1 here in
      subst (λ x. x < length n.states) move.2 (move_within n subset.in_range edge.0 move.0.1 (Some move.0.0) edge.2))

  module _ (pairs : List (ℕ × List ℕ)) (at : ℕ) (g : IsGrouped pairs at) (end : ℕ) (run : IsRun moves at end) where
    -- earlier letters are smaller
    earlier : (k : ℕ) → k < at → letter_of moves k < letter_of moves at
    earlier k l =
        let r = g.covered k l in
        look_up-below pairs (letter_of moves at) (letter_of moves k) r.0 (g.below at (omega arith) (let a = run.some in let b = run.within in omega arith)) r.1

    -- the targets of the run are those to which its letter leads
    run_step : IsStep n (letter_of moves at) states (map (λ move. move.1) (run_of moves at end))
    run_step = record {
      targets = λ p q there edge. to q (m.to (letter_of moves at, q) (moves_from-edge n states (letter_of moves at) q p there edge));
      only_targets = λ q there. from q (Contains-map_cases (λ move. move.1) (run_of moves at end) q there);
    }
      where
        to : (q : ℕ) → Contains moves (letter_of moves at, q) → Contains (map (λ move. move.1) (run_of moves at end)) q
        to q (k, l, e) =
            let letter = letter_of-move moves k (letter_of moves at) q l e in
            let low : at ≤ k = elim (cases_lt k at) [ inl less ↦ (let x = earlier k less in absurd (omega arith)) | inr more ↦ more ] in
            let high : k < end = elim (cases_lt k end) [ inl less ↦ less | inr more ↦ (let x = run.later k more l in absurd (omega arith)) ] in
            let place : at + (k - at) ≡ k = omega arith in
            Contains-map (λ move. move.1) (run_of moves at end) (letter_of moves at, q) (
              k - at,
              (let c = run_of-length moves at end run.within in omega arith),
              run_of-at moves at end (k - at) (letter_of moves at, q) (omega arith) ∙ ap (λ i. get_or moves i (letter_of moves at, q)) place ∙ e,
            )

        from : (q : ℕ) → (move : ℕ × ℕ) × Contains (run_of moves at end) move × (move.1 ≡ q) → (p : ℕ) × Contains states p × Contains (edges_of n.states p) (Some (letter_of moves at), q)
        from q (move, (k, l, e), is) =
            let inside : k < end - at = (let c = run_of-length moves at end run.within in omega arith) in
            let there : get_or moves (at + k) move ≡ move = sym (run_of-at moves at end k move inside) ∙ e in
            let bound : at + k < length moves = (let b = run.within in omega arith) in
            let letter : move.0 ≡ letter_of moves at = sym (letter_of-move moves (at + k) move.0 move.1 bound there) ∙ run.same (at + k) (omega arith) (omega arith) in
            let same : move ≡ (letter_of moves at, q) = (λ i. (letter i, is i)) in
            move_edge (letter_of moves at) q (subst (Contains moves) same (at + k, bound, there))

    -- one more run
    pub grouped_more : (kept r : List ℕ) → ((w : List ℕ) → AcceptsFromAny n (map (λ move. move.1) (run_of moves at end)) w ↔ AcceptsFromAny n kept w) → IsSubsetFrom n kept r
        → IsGrouped (pairs ++ (letter_of moves at, r) ∷ []) end
    grouped_more kept r same_words from = record {
      within = run.within;
      increasing = increasing_push pairs (letter_of moves at, r) g.increasing lower;
      letters_in_range = All-push (λ (pair : ℕ × List ℕ). pair.0 < n.letters) pairs (letter_of moves at, r) g.letters_in_range (letter_in_range at there);
      subsets = All-push (λ (pair : ℕ × List ℕ). IsSubset n pair.1) pairs (letter_of moves at, r) g.subsets (record { in_range = subset.in_range; states = from.states; closed = from.closure.closed });
      goes_on = goes_on;
      covered = covered;
      below = λ k l b. All-push (λ (pair : ℕ × List ℕ). pair.0 < letter_of moves k) pairs (letter_of moves at, r)
          (g.below k (let s = run.some in omega arith) b) (run.later k l b);
    }
      where
        there : at < length moves
        there = let s = run.some in let b = run.within in omega arith

        lower : All (λ pair. pair.0 < letter_of moves at) pairs
        lower = g.below at (omega arith) there

        new : look_up (pairs ++ (letter_of moves at, r) ∷ []) (letter_of moves at) ≡ Some r
        new = look_up-push_same pairs (letter_of moves at, r) (look_up-above pairs (letter_of moves at) lower)

        goes_on : (a : ℕ) (s : List ℕ) → look_up (pairs ++ (letter_of moves at, r) ∷ []) a ≡ Some s → (w : List ℕ) → AcceptsFromAny n states (a ∷ w) ↔ AcceptsFromAny n s w
        goes_on a s h w = elim (cases_eq (letter_of moves at) a) [
          | inl same ↦
              let is : r ≡ s = (let k = subst (λ x. look_up (pairs ++ (letter_of moves at, r) ∷ []) x ≡ Some s) (sym same) h in let l = new in cc) in
              let step = step_accepts n states subset.closed (letter_of moves at) (map (λ move. move.1) (run_of moves at end)) run_step w in
              let same_word = same_words w in
              let close = closure_accepts n kept r from.closure w in
              subst (λ x. AcceptsFromAny n states (x ∷ w) ↔ AcceptsFromAny n s w) same
              (subst (λ x. AcceptsFromAny n states (letter_of moves at ∷ w) ↔ AcceptsFromAny n x w) is
              (λ accepted. close.0 (same_word.0 (step.0 accepted)), λ accepted. step.1 (same_word.1 (close.1 accepted))))
          | inr other ↦ g.goes_on a s (sym (look_up-push_other pairs (letter_of moves at, r) a other) ∙ h) w
        ]

        covered : (k : ℕ) → k < end → (s : List ℕ) × (look_up (pairs ++ (letter_of moves at, r) ∷ []) (letter_of moves k) ≡ Some s)
        covered k l = elim (cases_lt k at) [
          | inl less ↦
              let s = g.covered k less in
              let e = earlier k less in
              (s.0, look_up-push_other pairs (letter_of moves at, r) (letter_of moves k) (λ same. absurd (omega arith)) ∙ s.1)
          | inr more ↦ (r, ap (look_up (pairs ++ (letter_of moves at, r) ∷ [])) (run.same k more l) ∙ new)
        ]

  -- all runs
  pub grouped_all : (pairs : List (ℕ × List ℕ)) (at : ℕ) → length moves ≤ at → IsGrouped pairs at → AreResiduals n.letters (AcceptsFromAny n) (IsSubset n) states pairs
  grouped_all pairs at end g = record {
    increasing = g.increasing;
    letters_in_range = g.letters_in_range;
    states = g.subsets;
    goes_on = g.goes_on;
    stops = stops;
  }
    where
      stops : (a : ℕ) → look_up pairs a ≡ None → (w : List ℕ) → AcceptsFromAny n states (a ∷ w) → ⊥
      stops a none w accepted =
          let step : IsStep n a states [] = record {
            targets = λ p q there edge.
                let place = m.to (a, q) (moves_from-edge n states a q p there edge) in
                let letter = letter_of-move moves place.0 a q place.1 place.2 in
                let b = place.1 in
                let r = g.covered place.0 (omega arith) in
                (let k = subst (λ x. look_up pairs x ≡ Some r.0) letter r.1 in cc);
            only_targets = λ q there. absurd (Contains-none q there);
          } in
          let run = (step_accepts n states subset.closed a [] step w).0 accepted in
          Contains-none run.0 run.3
