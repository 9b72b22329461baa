-- The gap for a letter between two neighbouring edges.
use Rattle.std.proofs.Common.{◌≡◌, ◌+◌, ◌-◌, ◌<◌, ◌≤◌, ◌⊎◌, ℕ, List, length, sym, subst, inl, inr, arith}
use Rattle.std.proofs.lemmas.Bool.{cases_eq}
use Rattle.word_automata.specs.Automaton.{HasIncreasingLetters}
use Rattle.word_automata.specs.EdgeList.{letter_at, IsGapFor}
use Rattle.word_automata.proofs.ForCallers.{letters_rise}

-- the edge before a place has a smaller letter, and the edge at it a greater one
pub gap_between : (edges : List (ℕ × ℕ)) → HasIncreasingLetters edges → (letter i : ℕ) → i ≤ length edges
    → (0 < i → letter_at edges (i - 1) < letter) → (i < length edges → letter < letter_at edges i) → IsGapFor edges letter i
gap_between edges sorted letter i within below above = record {
  within = within;
  smaller_before = λ j l. by_before j l (cases_eq (j + 1) i);
  greater_after = λ j l m. by_after j l m (cases_eq j i);
}
  where
    by_before : (j : ℕ) → j < i → (j + 1 ≡ i) ⊎ (j + 1 ≡ i → ⊥) → letter_at edges j < letter
    by_before j l (inl same) = let e : i - 1 ≡ j = omega (arith, same) in subst (λ k. letter_at edges k < letter) e (below (omega arith))
    by_before j l (inr other) = omega (arith, below (omega arith), letters_rise edges sorted j (i - 1) (omega arith) (omega arith))

    by_after : (j : ℕ) → i ≤ j → j < length edges → (j ≡ i) ⊎ (j ≡ i → ⊥) → letter < letter_at edges j
    by_after j l m (inl same) = subst (λ k. letter < letter_at edges k) (sym same) (above (omega arith))
    by_after j l m (inr other) = omega (arith, above (omega arith), letters_rise edges sorted i j (omega arith) m)
