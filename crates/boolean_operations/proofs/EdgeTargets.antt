-- Targets and places in a list of edges whose letters increase.
use Rattle.std.proofs.Common.{◌≡◌, ◌+◌, ◌<◌, ◌≤◌, ◌⊎◌, ℕ, zero, suc, List, [], ◌∷◌, Option, None, Some, length, slice_get, refl, sym, ap, ◌∙◌, inl, inr, arith}
use Rattle.std.proofs.lemmas.Bool.{cases_eq, cases_lt}
use Rattle.std.proofs.lemmas.Option.{same_Some}
use Rattle.std.proofs.lemmas.List.Elements.{All-contains}
use Rattle.word_automata.specs.Automaton.{find_target, HasIncreasingLetters}
use Rattle.exploration.proofs.ForCallers.{look_up-here, look_up-there, look_up-edges}
use Rattle.boolean_operations.specs.private.MergedEdges.{IsPassed, IsTaken, IsLeastLetter}
use Rattle.boolean_operations.proofs.SearchCalls.{contains_at}

find_here : (edge : ℕ × ℕ) (edges : List (ℕ × ℕ)) (a : ℕ) → edge.0 ≡ a → find_target (edge ∷ edges) a ≡ Some edge.1
find_here edge edges a same = sym (look_up-edges (edge ∷ edges) a) ∙ look_up-here edge edges a same

find_there : (edge : ℕ × ℕ) (edges : List (ℕ × ℕ)) (a : ℕ) → (edge.0 ≡ a → ⊥) → find_target (edge ∷ edges) a ≡ find_target edges a
find_there edge edges a other = sym (look_up-edges (edge ∷ edges) a) ∙ look_up-there edge edges a other ∙ look_up-edges edges a

-- the target of an edge by its letter
pub target_at : (edges : List (ℕ × ℕ)) → HasIncreasingLetters edges → (i a r : ℕ) → slice_get edges i ≡ Some (a, r) → find_target edges a ≡ Some r
target_at [] sorted i a r at = (cc)
target_at (edge ∷ edges) sorted zero a r at =
    let same : ◌≡◌ {A = ℕ × ℕ} edge (a, r) = same_Some edge (a, r) at in
    find_here edge edges a (ap (λ (e : ℕ × ℕ). e.0) same) ∙ ap (λ (e : ℕ × ℕ). Some e.1) same
target_at (edge ∷ edges) sorted (suc i) a r at =
    let above : edge.0 < a = All-contains (λ (later : ℕ × ℕ). edge.0 < later.0) edges (a, r) sorted.0 (contains_at edges (a, r) i at) in
    find_there edge edges a (λ same. omega arith) ∙ target_at edges sorted.1 i a r at

-- and the edge of a target
pub edge_of : (edges : List (ℕ × ℕ)) (a r : ℕ) → find_target edges a ≡ Some r → (i : ℕ) × (i < length edges) × (slice_get edges i ≡ Some (a, r))
edge_of [] a r found = (cc)
edge_of (edge ∷ edges) a r found = elim (cases_eq edge.0 a) [
  | inl same ↦
      let to : edge.1 ≡ r = same_Some edge.1 r (sym (find_here edge edges a same) ∙ found) in
      (0, omega arith, ap (λ (e : ℕ × ℕ). Some e) (ap (λ x. (x, edge.1)) same ∙ ap (λ y. (a, y)) to))
  | inr other ↦
      let rest = edge_of edges a r (sym (find_there edge edges a other) ∙ found) in
      (suc rest.0, (let l = rest.1 in omega arith), rest.2)
]

-- letters increase with the places
letters_rise : (edges : List (ℕ × ℕ)) → HasIncreasingLetters edges → (i j : ℕ) (d e : ℕ × ℕ) → i < j → slice_get edges i ≡ Some d → slice_get edges j ≡ Some e → d.0 < e.0
letters_rise [] sorted i j d e l x y = (cc)
letters_rise (edge ∷ edges) sorted i zero d e l x y = absurd (omega arith)
letters_rise (edge ∷ edges) sorted zero (suc j) d e l x y =
    let same : edge ≡ d = same_Some edge d x in
    let above : edge.0 < e.0 = All-contains (λ (later : ℕ × ℕ). edge.0 < later.0) edges e sorted.0 (contains_at edges e j y) in
    omega (arith, ap (λ (f : ℕ × ℕ). f.0) same, above)
letters_rise (edge ∷ edges) sorted (suc i) (suc j) d e l x y = letters_rise edges sorted.1 i j d e (omega arith) x y

-- letters do not decrease with the places
letters_from : (edges : List (ℕ × ℕ)) → HasIncreasingLetters edges → (i k : ℕ) (d e : ℕ × ℕ) → i ≤ k → slice_get edges i ≡ Some d → slice_get edges k ≡ Some e → d.0 ≤ e.0
letters_from edges sorted i k d e l x y = elim (cases_eq i k) [
  | inl same ↦ let is : d ≡ e = same_Some d e (sym x ∙ ap (slice_get edges) same ∙ y) in omega (arith, ap (λ (f : ℕ × ℕ). f.0) is)
  | inr other ↦ let less = letters_rise edges sorted i k d e (omega arith) x y in omega arith
]

-- where edges were passed up to a letter, no edge has a letter from there to one that is below the others
pub no_target : (edges : List (ℕ × ℕ)) (i bound a : ℕ) → IsPassed edges i bound → bound ≤ a → ((k : ℕ) (edge : ℕ × ℕ) → i ≤ k → slice_get edges k ≡ Some edge → a < edge.0) → find_target edges a ≡ None
no_target edges i bound a passed le above = by (find_target edges a) refl
  where
    by : (o : Option ℕ) → find_target edges a ≡ o → find_target edges a ≡ None
    by None e = e
    by (Some r) e =
        let place = edge_of edges a r e in
        elim (cases_lt place.0 i) [
          | inl before ↦ absurd (let l = passed.below place.0 (a, r) before place.2 in omega arith)
          | inr after ↦ absurd (let l = above place.0 (a, r) (omega arith) place.2 in omega arith)
        ]

-- edges that were passed up to a letter were passed up to a later one that is not above the others
pub passed_later : (edges : List (ℕ × ℕ)) (i bound letter : ℕ) → IsPassed edges i bound → bound ≤ letter → ((k : ℕ) (edge : ℕ × ℕ) → i ≤ k → slice_get edges k ≡ Some edge → letter ≤ edge.0)
    → IsPassed edges i letter
passed_later edges i bound letter passed le above = record { below = λ k edge l at. (let m = passed.below k edge l at in omega arith); above = above }

-- where a list ends nothing is behind
nothing_behind : (edges : List (ℕ × ℕ)) (i k : ℕ) (e : ℕ × ℕ) → i < k → slice_get edges i ≡ None → slice_get edges k ≡ Some e → ⊥
nothing_behind [] i k e l none at = (cc)
nothing_behind (x ∷ edges) zero k e l none at = (cc)
nothing_behind (x ∷ edges) (suc i) zero e l none at = omega arith
nothing_behind (x ∷ edges) (suc i) (suc k) e l none at = nothing_behind edges i k e (omega arith) none at

-- what a list gives for the letter
pub taken_edge : (edges : List (ℕ × ℕ)) → HasIncreasingLetters edges → (i letter : ℕ) (edge : ℕ × ℕ) → IsPassed edges i letter → slice_get edges i ≡ Some edge → edge.0 ≡ letter
    → IsTaken edges i letter (Some edge.1) (i + 1)
taken_edge edges sorted i letter edge passed at is = record {
  target_is = sym (ap (find_target edges) (sym is) ∙ target_at edges sorted i edge.0 edge.1 at);
  passed = record {
    below = λ k e l there. by k e l there (cases_eq k i);
    above = λ k e l there. (let m = letters_rise edges sorted i k edge e (omega arith) at there in omega arith);
  };
  forward = omega arith;
  moves = λ e there same. refl;
}
  where
    by : (k : ℕ) (e : ℕ × ℕ) → k < i + 1 → slice_get edges k ≡ Some e → (k ≡ i) ⊎ (k ≡ i → ⊥) → e.0 < letter + 1
    by k e l there (inr other) = let m = passed.below k e (omega arith) there in omega arith
    by k e l there (inl same) =
        let is_edge : e ≡ edge = same_Some e edge (sym there ∙ ap (slice_get edges) same ∙ at) in
        omega (arith, ap (λ (f : ℕ × ℕ). f.0) is_edge, is)

pub taken_nothing : (edges : List (ℕ × ℕ)) → HasIncreasingLetters edges → (i letter : ℕ) → IsPassed edges i letter → ((edge : ℕ × ℕ) → slice_get edges i ≡ Some edge → edge.0 ≡ letter → ⊥)
    → IsTaken edges i letter None i
taken_nothing edges sorted i letter passed other = record {
  target_is = sym (no_target edges i letter letter passed (omega arith) above);
  passed = record { below = λ k e l at. (let m = passed.below k e l at in omega arith); above = λ k e l at. (let m = above k e l at in omega arith) };
  forward = omega arith;
  moves = λ edge at same. absurd (other edge at same);
}
  where
    above : (k : ℕ) (e : ℕ × ℕ) → i ≤ k → slice_get edges k ≡ Some e → letter < e.0
    above k e l at = by (slice_get edges i) refl
      where
        by : (o : Option (ℕ × ℕ)) → slice_get edges i ≡ o → letter < e.0
        by None none = elim (cases_eq i k) [
          | inl same ↦ (let x : None ≡ Some e = sym none ∙ ap (slice_get edges) same ∙ at in cc)
          | inr before ↦ absurd (nothing_behind edges i k e (omega arith) none at)
        ]
        by (Some first) there =
            let low = passed.above i first (omega arith) there in
            let up = letters_from edges sorted i k first e l there at in
            elim (cases_eq first.0 letter) [ inl is ↦ absurd (other first there is) | inr not_is ↦ omega arith ]

-- the least letter of two lists
pub least_left : (left right : List (ℕ × ℕ)) → HasIncreasingLetters left → (i j : ℕ) (edge : ℕ × ℕ) → slice_get left i ≡ Some edge
    → ((k : ℕ) (e : ℕ × ℕ) → j ≤ k → slice_get right k ≡ Some e → edge.0 ≤ e.0) → IsLeastLetter left i right j edge.0
least_left left right sorted i j edge at above = record {
  left_above = λ k e l there. letters_from left sorted i k edge e l at there;
  right_above = above;
  one = inl (edge, at, refl);
}

pub least_right : (left right : List (ℕ × ℕ)) → HasIncreasingLetters right → (i j : ℕ) (edge : ℕ × ℕ) → slice_get right j ≡ Some edge
    → ((k : ℕ) (e : ℕ × ℕ) → i ≤ k → slice_get left k ≡ Some e → edge.0 ≤ e.0) → IsLeastLetter left i right j edge.0
least_right left right sorted i j edge at above = record {
  left_above = above;
  right_above = λ k e l there. letters_from right sorted j k edge e l at there;
  one = inr (edge, at, refl);
}

-- all edges have letters from a bound on where the first of them does
pub above_first : (edges : List (ℕ × ℕ)) → HasIncreasingLetters edges → (i bound : ℕ) (edge : ℕ × ℕ) → slice_get edges i ≡ Some edge → bound ≤ edge.0
    → (k : ℕ) (e : ℕ × ℕ) → i ≤ k → slice_get edges k ≡ Some e → bound ≤ e.0
above_first edges sorted i bound edge at le k e l there = let m = letters_from edges sorted i k edge e l at there in omega arith
