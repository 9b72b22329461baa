-- Pairs that are added one after another.
use Rattle.std.proofs.Common.{◌≡◌, ◌<◌, ◌≤◌, ◌+◌, ℕ, false, List, Contains, IsTrue, length, take, get_or, sym, ap, subst, ◌∙◌, inl, inr, arith}
use Rattle.std.specs.List.Sorted.{IsNonDecreasingBy}
use Rattle.std.proofs.lemmas.Bool.{cases_lt, false≢true}
use Rattle.std.proofs.lemmas.List.{get_or_default}
use Rattle.std.proofs.lemmas.List.Elements.{Contains-get_or}
use Rattle.word_automata.specs.Path.{is_accepting}
use Rattle.word_automata.specs.Automaton.{Automaton}
use Rattle.predicate_abstraction.specs.private.Pairs.{Pairs, AddsPairs}
use Rattle.predicate_abstraction.specs.private.SharedWords.{IsAcceptingIn, AreAccepting, IsPlaceOf, IsSource, AreSources}
use Rattle.abstraction.proofs.ForCallers.{take_cases, take_keeps, take_last}
use Rattle.predicate_abstraction.proofs.Marks.{adds_nothing, adds_both, adds_same}

-- two pairs with equal parts
same_pair : (x : ℕ × ℕ) (p s : ℕ) → x.0 ≡ p → x.1 ≡ s → x ≡ (p, s)
same_pair x p s first second = ap (λ q. (q, x.1)) first ∙ ap (λ t. (p, t)) second

-- one more column
pub columns_more : (b : Automaton) (row i : ℕ) (old mid new : Pairs) → IsTrue (is_accepting b.states i) → AddsPairs (IsAcceptingIn b row i) old mid
    → AddsPairs (λ x. x ≡ (row, i)) mid new → AddsPairs (IsAcceptingIn b row (i + 1)) old new
columns_more b row i old mid new accepts before last =
    adds_both (IsAcceptingIn b row i) (λ x. x ≡ (row, i)) (IsAcceptingIn b row (i + 1))
    (λ x is. elim (cases_lt x.1 i) [ inl earlier ↦ inl (is.0, earlier, is.2) | inr from ↦ inr (same_pair x row i is.0 (let l = is.1 in omega arith)) ])
    (λ x is. (is.0, (let l = is.1 in omega arith), is.2))
    (λ x is. (ap (λ (y : ℕ × ℕ). y.0) is, (let e = ap (λ (y : ℕ × ℕ). y.1) is in omega arith), subst (λ (y : ℕ × ℕ). IsTrue (is_accepting b.states y.1)) (sym is) accepts))
    old mid new before last

pub columns_kept : (b : Automaton) (row i : ℕ) (old new : Pairs) → is_accepting b.states i ≡ false → AddsPairs (IsAcceptingIn b row i) old new → AddsPairs (IsAcceptingIn b row (i + 1)) old new
columns_kept b row i old new rejects before =
    adds_same (IsAcceptingIn b row i) (IsAcceptingIn b row (i + 1))
    (λ x is. (is.0, (let l = is.1 in omega arith), is.2))
    (λ x is. elim (cases_lt x.1 i) [
      | inl earlier ↦ (is.0, earlier, is.2)
      | inr from ↦
          let here : i ≡ x.1 = (let l = is.1 in omega arith) in
          absurd (false≢true (sym rejects ∙ ap (λ k. is_accepting b.states k) here ∙ is.2))
    ])
    old new before

-- one more row
pub rows_more : (a b : Automaton) (i : ℕ) (old mid new : Pairs) → IsTrue (is_accepting a.states i) → AddsPairs (AreAccepting a b i) old mid
    → AddsPairs (IsAcceptingIn b i (length b.states)) mid new → AddsPairs (AreAccepting a b (i + 1)) old new
rows_more a b i old mid new accepts before last =
    adds_both (AreAccepting a b i) (IsAcceptingIn b i (length b.states)) (AreAccepting a b (i + 1))
    (λ x is. elim (cases_lt x.0 i) [ inl earlier ↦ inl (earlier, is.1, is.2, is.3) | inr from ↦ inr ((let l = is.0 in omega arith), is.2, is.3) ])
    (λ x is. ((let l = is.0 in omega arith), is.1, is.2, is.3))
    (λ x is. ((let e = is.0 in omega arith), subst (λ k. IsTrue (is_accepting a.states k)) (sym is.0) accepts, is.1, is.2))
    old mid new before last

pub rows_kept : (a b : Automaton) (i : ℕ) (old new : Pairs) → is_accepting a.states i ≡ false → AddsPairs (AreAccepting a b i) old new → AddsPairs (AreAccepting a b (i + 1)) old new
rows_kept a b i old new rejects before =
    adds_same (AreAccepting a b i) (AreAccepting a b (i + 1))
    (λ x is. ((let l = is.0 in omega arith), is.1, is.2, is.3))
    (λ x is. elim (cases_lt x.0 i) [
      | inl earlier ↦ (earlier, is.1, is.2, is.3)
      | inr from ↦
          let here : i ≡ x.0 = (let l = is.0 in omega arith) in
          absurd (false≢true (sym rejects ∙ ap (λ k. is_accepting a.states k) here ∙ is.1))
    ])
    old new before

-- a pair of the row and the source of an edge with the letter before a place
abbrev pub IsSourceBefore : ℕ → ℕ → List (ℕ × ℕ) → ℕ → ℕ × ℕ → Type 0
IsSourceBefore row letter edges at pair = (pair.0 ≡ row) × (k : ℕ) × (k < at) × (k < length edges) × (get_or edges k (0, 0) ≡ (letter, pair.1))

-- edges that are sorted by letters, from the place of the letter on
module _ (row letter : ℕ) (edges : List (ℕ × ℕ)) (order : IsNonDecreasingBy (λ (move : ℕ × ℕ). move.0) edges) where
  abbrev Before : ℕ → ℕ × ℕ → Type 0
  Before at = IsSourceBefore row letter edges at

  pub sources_none : (place : ℕ) → IsPlaceOf letter edges place → (set : Pairs) → AddsPairs (Before place) set set
  sources_none place is set =
      adds_nothing (Before place) (λ x before. let same = ap (λ (e : ℕ × ℕ). e.0) before.4 in let l = is.less before.1 before.2 in omega arith) set

  pub sources_more : (at : ℕ) (old mid new : Pairs) → at < length edges → (get_or edges at (0, 0)).0 ≡ letter → AddsPairs (Before at) old mid
      → AddsPairs (λ x. x ≡ (row, (get_or edges at (0, 0)).1)) mid new → AddsPairs (Before (at + 1)) old new
  sources_more at old mid new within here before last =
      let edge = get_or edges at (0, 0) in
      adds_both (Before at) (λ x. x ≡ (row, edge.1)) (Before (at + 1))
      (λ x is. elim (cases_lt is.1 at) [
        | inl earlier ↦ inl (is.0, is.1, earlier, is.3, is.4)
        | inr from ↦
            let same : is.1 ≡ at = (let l = is.2 in omega arith) in
            inr (same_pair x row edge.1 is.0 (sym (ap (λ (e : ℕ × ℕ). e.1) (sym (ap (λ k. get_or edges k (0, 0)) same) ∙ is.4))))
      ])
      (λ x is. (is.0, is.1, (let l = is.2 in omega arith), is.3, is.4))
      (λ x is. (ap (λ (y : ℕ × ℕ). y.0) is, at, omega arith, within, same_pair edge letter x.1 here (sym (ap (λ (y : ℕ × ℕ). y.1) is))))
      old mid new before last

  pub sources_all : (place at : ℕ) (old new : Pairs) → IsPlaceOf letter edges place → place ≤ at → (at < length edges → (get_or edges at (0, 0)).0 ≡ letter → ⊥)
      → AddsPairs (Before at) old new → AddsPairs (IsSource row letter edges) old new
  sources_all place at old new is from end =
      adds_same (Before at) (IsSource row letter edges)
      (λ x before. (before.0, subst (Contains edges) before.4 (Contains-get_or edges before.1 (0, 0) before.3)))
      (λ x source.
      let (k, within, read) = source.1 in
      let same : get_or edges k (0, 0) ≡ (letter, x.1) = get_or_default edges k (0, 0) (letter, x.1) within ∙ read in (
        source.0,
        k,
        elim (cases_lt k at) [
          | inl earlier ↦ earlier
          | inr later ↦
              let least = is.rest at from (omega arith) in
              let most = order at k (0, 0) later within in
              let letters = ap (λ (e : ℕ × ℕ). e.0) same in
              absurd (end (omega arith) (omega arith))
        ],
        within,
        same,
      ))
      old new

-- one more edge into the first state
pub predecessors_more : (moves others : List (ℕ × ℕ)) (i : ℕ) → i < length moves → (old mid new : Pairs) → AddsPairs (AreSources (take i moves) others) old mid
    → AddsPairs (IsSource (get_or moves i (0, 0)).1 (get_or moves i (0, 0)).0 others) mid new → AddsPairs (AreSources (take (i + 1) moves) others) old new
predecessors_more moves others i within old mid new before last =
    let move = get_or moves i (0, 0) in
    adds_both (AreSources (take i moves) others) (IsSource move.1 move.0 others) (AreSources (take (i + 1) moves) others)
    (λ x is. elim (take_cases moves i (0, 0) (is.0, x.0) within is.1) [
      | inl earlier ↦ inl (is.0, earlier, is.2)
      | inr here ↦ inr (
        ap (λ (e : ℕ × ℕ). e.1) (sym here),
        subst (λ letter. Contains others (letter, x.1)) (ap (λ (e : ℕ × ℕ). e.0) (sym here)) is.2,
      )
    ])
    (λ x is. (is.0, take_keeps moves i (0, 0) (is.0, x.0) within is.1, is.2))
    (λ x is. (move.0, subst (λ t. Contains (take (i + 1) moves) (move.0, t)) (sym is.0) (take_last moves i (0, 0) within), is.1))
    old mid new before last
