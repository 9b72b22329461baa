-- The gap behind an edge, or behind a letter that has none.
use Rattle.std.proofs.Common.{◌≡◌, ◌+◌, ◌<◌, ◌≤◌, ℕ, List, Option, None, length, sym, subst, inl, inr, arith}
use Rattle.std.proofs.lemmas.Bool.{cases_eq}
use Rattle.word_automata.specs.Path.{edges_of}
use Rattle.word_automata.specs.Automaton.{Automaton, HasIncreasingLetters, find_target}
use Rattle.word_automata.specs.EdgeList.{letter_at, IsEdgeAt, IsGapFor}
use Rattle.word_automata.proofs.ForCallers.{letters_rise, find_target_gap}
use Rattle.image_preimage.specs.Gaps.{IsGap, IsInGap}
use Rattle.image_preimage.specs.Pairs.{advance}

-- the letters from the place on are not below that of the edge there
pub not_below : (edges : List (ℕ × ℕ)) → HasIncreasingLetters edges → (place j : ℕ) → place ≤ j → j < length edges
    → letter_at edges place ≤ letter_at edges j
not_below edges sorted place j from within = elim (cases_eq place j) [
  | inl same ↦ subst (λ k. letter_at edges place ≤ letter_at edges k) same (omega arith)
  | inr other ↦ omega (arith, letters_rise edges sorted place j (omega arith) within)
]

module _ (edges : List (ℕ × ℕ)) (low high place : ℕ) (above : (j : ℕ) → place ≤ j → j < length edges → high ≤ letter_at edges j) where
  is_gap : place ≤ length edges → ((j : ℕ) → j < place → letter_at edges j ≤ low) → IsGap edges low high
  is_gap within before letter greater less = find_target_gap edges letter place (record {
    within = within;
    smaller_before = λ j below. omega (arith, before j below);
    greater_after = λ j from end. omega (arith, above j from end);
  })

  -- behind a letter without an edge
  pub behind_letter : IsGapFor edges low place → IsGap edges low high
  behind_letter gap = is_gap gap.within (λ j below. omega (arith, gap.smaller_before j below))

-- before all edges
pub before_all : (edges : List (ℕ × ℕ)) (high : ℕ) → ((j : ℕ) → 0 ≤ j → j < length edges → high ≤ letter_at edges j) → IsGap edges 0 high
before_all edges high above = is_gap edges 0 high 0 above (omega arith) (λ j below. absurd (omega arith))

-- behind an edge
pub behind_edge : (edges : List (ℕ × ℕ)) (letter high at : ℕ) → HasIncreasingLetters edges
    → ((j : ℕ) → at + 1 ≤ j → j < length edges → high ≤ letter_at edges j) → IsEdgeAt edges letter at → IsGap edges letter high
behind_edge edges letter high at sorted above here = is_gap edges letter high (at + 1) above (omega (arith, here.within)) (λ j below.
    omega (arith, not_below edges sorted j at (omega arith) here.within, here.has_letter))

-- a letter in the gap leads nowhere
pub in_gap : (a : Automaton) (q : ℕ) (edges : List (ℕ × ℕ)) (low high : ℕ) (label : Option ℕ) → edges ≡ edges_of a.states q → IsGap edges low high
    → IsInGap low high label → advance a q label ≡ None
in_gap a q edges low high label read gap (letter, is, above, below) =
    subst (λ l. advance a q l ≡ None) (sym is) (subst (λ es. find_target es letter ≡ None) read (gap letter above below))
