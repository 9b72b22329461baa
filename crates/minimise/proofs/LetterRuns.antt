-- Moves cut by their letters.
use Rattle.std.proofs.Common.{◌≡◌, ◌+◌, ◌-◌, ◌<◌, ◌≤◌, ℕ, List, Contains, length, get_or, take, drop, sym, ap, subst, ◌∙◌, inl, inr, arith}
use Rattle.std.proofs.lemmas.Bool.{cases_lt}
use Rattle.std.proofs.lemmas.List.{length-take, length-drop, get_or-take, get_or-drop, get_or_default}
use Rattle.word_automata.specs.Automaton.{Automaton}
use Rattle.minimise.specs.private.Splitters.{letter_at, source_at, HasOrderedLetters, IsRun, IsSaturated, IsSource, AreSources}

abbrev pub moves_of_run : List (ℕ × ℕ) → ℕ → ℕ → List (ℕ × ℕ)
moves_of_run moves at end = take (end - at) (drop at moves)

module _ (moves : List (ℕ × ℕ)) (at end : ℕ) (run : IsRun moves at end) (earlier : (j : ℕ) → j < at → letter_at moves j < letter_at moves at) where
  run_length : length (moves_of_run moves at end) ≡ end - at
  run_length = let w = run.within in simp (length-take, length-drop) (omega arith)

  run_at : (k : ℕ) → k < end - at → get_or (moves_of_run moves at end) k (0, 0) ≡ get_or moves (at + k) (0, 0)
  run_at k l = get_or-take (end - at) (drop at moves) k (0, 0) l ∙ get_or-drop at moves k (0, 0)

  move_there : (k : ℕ) → k < end - at → Contains moves (letter_at moves at, source_at (moves_of_run moves at end) k)
  move_there k l =
      let w = run.within in
      let within : at + k < length moves = omega arith in
      let letter = run.same (at + k) (omega arith) (omega arith) in
      let source : source_at moves (at + k) ≡ source_at (moves_of_run moves at end) k = ap (λ (x : ℕ × ℕ). x.1) (sym (run_at k l)) in (
        at + k,
        within,
        get_or_default moves (at + k) (letter_at moves at, source_at (moves_of_run moves at end) k) (0, 0) within ∙ (λ i. (letter i, source i)),
      )

  is_source : (q : ℕ) → Contains moves (letter_at moves at, q) → IsSource (moves_of_run moves at end) (length (moves_of_run moves at end)) q
  is_source q (k, l, e) =
      let is : get_or moves k (0, 0) ≡ (letter_at moves at, q) = get_or_default moves k (0, 0) (letter_at moves at, q) l ∙ e in
      let letter : letter_at moves k ≡ letter_at moves at = ap (λ (x : ℕ × ℕ). x.0) is in
      let low : at ≤ k = elim (cases_lt k at) [ inl less ↦ (let x = earlier k less in absurd (omega arith)) | inr more ↦ more ] in
      let high : k < end = elim (cases_lt k end) [ inl less ↦ less | inr more ↦ (let x = run.later k more l in absurd (omega arith)) ] in
      let place : at + (k - at) ≡ k = omega arith in (
        k - at,
        (let c = run_length in omega arith),
        ap (λ (x : ℕ × ℕ). x.1) (run_at (k - at) (omega arith) ∙ ap (λ x. get_or moves x (0, 0)) place ∙ is),
      )

  pub run_sources : (m : Automaton) → IsSaturated m moves → AreSources m (moves_of_run moves at end)
  run_sources m saturated = record {
    states = λ k l. saturated.states (letter_at moves at, source_at (moves_of_run moves at end) k) (move_there k (let c = run_length in omega arith));
    apart = λ p q source absent.
        let here = move_there source.0 (let c = run_length in let l = source.1 in omega arith) in
        let there : Contains moves (letter_at moves at, p) = subst (λ x. Contains moves (letter_at moves at, x)) source.2 here in
        saturated.apart (letter_at moves at) p q there (λ member. absent (is_source q member));
  }

-- a run ends where another letter comes
pub run_ends : (moves : List (ℕ × ℕ)) → HasOrderedLetters moves → (at end : ℕ) → at < end → end < length moves
    → ((k : ℕ) → at ≤ k → k < end → letter_at moves k ≡ letter_at moves at) → (letter_at moves end ≡ letter_at moves at → ⊥) → IsRun moves at end
run_ends moves ordered at end some within same other = record {
  some = some;
  within = omega arith;
  same = same;
  later = λ k l m.
      let a = ordered at end (omega arith) within in
      let b = ordered end k l m in
      elim (cases_lt (letter_at moves at) (letter_at moves end)) [
        | inl less ↦ omega arith
        | inr more ↦ absurd (other (omega arith))
      ];
}

-- and the letters before it are smaller
pub run_earlier : (moves : List (ℕ × ℕ)) (at end : ℕ) → IsRun moves at end → ((j k : ℕ) → j < at → at ≤ k → k < length moves → letter_at moves j < letter_at moves k)
    → (j k : ℕ) → j < end → end ≤ k → k < length moves → letter_at moves j < letter_at moves k
run_earlier moves at end run earlier j k l more within = elim (cases_lt j at) [
  | inl less ↦ let s = run.some in earlier j k less (omega arith) within
  | inr later ↦ let e = run.same j later l in let b = run.later k more within in omega arith
]
