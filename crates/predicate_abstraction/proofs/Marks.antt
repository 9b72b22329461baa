-- Sets of pairs by marks.
use Rattle.std.proofs.Common.{◌≡◌, ◌<◌, ◌*◌, ◌+◌, ◌/◌, ◌⊎◌, ◌↔◌, ℕ, Bool, true, false, List, [], ◌∷◌, ◌++◌, Contains, get_or, set, refl, sym, ap, subst, ◌∙◌, inl, inr, arith}
use Rattle.std.proofs.Math.Nat.{mul-le-mul_right}
use Rattle.std.proofs.lemmas.Nat.{div-mul-add}
use Rattle.std.proofs.lemmas.Bool.{cases_eq}
use Rattle.std.proofs.lemmas.List.{get_or-set_same, get_or-set_other, length-set, append-nil, append_assoc}
use Rattle.std.proofs.lemmas.List.Elements.{All-append, All-cons, All-nil, Contains-append_left, Contains-push, Contains-push_cases}
use Rattle.predicate_abstraction.specs.private.Pairs.{Pairs, AreMarked, AddsPairs}

-- the place of a pair is one of the places
pub place_within : (rows columns row column : ℕ) → row < rows → column < columns → row * columns + column < rows * columns
place_within rows columns row column lr lc = let h = mul-le-mul_right {m = row + 1} {n = rows} columns (omega arith) in omega (arith, h)

-- and no other pair has it
pub place-row : (columns row column p s : ℕ) → column < columns → s < columns → p * columns + s ≡ row * columns + column → p ≡ row
place-row columns row column p s lc ls same = sym (div-mul-add p columns s ls) ∙ ap (λ k. k / columns) same ∙ div-mul-add row columns column lc

pub place-column : (columns row column p s : ℕ) → column < columns → s < columns → p * columns + s ≡ row * columns + column → s ≡ column
place-column columns row column p s lc ls same =
    let rows : p * columns ≡ row * columns = ap (λ k. k * columns) (place-row columns row column p s lc ls same) in omega arith

-- one more pair
pub marked_more : (rows columns row column at : ℕ) (marks : List Bool) (pairs : List (ℕ × ℕ)) → row < rows → column < columns → at ≡ row * columns + column
    → AreMarked rows columns marks pairs → AreMarked rows columns (set marks at true) (pairs ++ (row, column) ∷ [])
marked_more rows columns row column at marks pairs lr lc place are = record {
  count = length-set marks at true ∙ are.count;
  in_range = All-append (λ (pair : ℕ × ℕ). (pair.0 < rows) × (pair.1 < columns)) pairs ((row, column) ∷ []) are.in_range
      (All-cons (λ (pair : ℕ × ℕ). (pair.0 < rows) × (pair.1 < columns)) (row, column) [] (lr, lc) (All-nil (λ (pair : ℕ × ℕ). (pair.0 < rows) × (pair.1 < columns))));
  marked = λ p s lp ls. by p s lp ls (cases_eq (p * columns + s) at);
}
  where
    by : (p s : ℕ) → p < rows → s < columns → (p * columns + s ≡ at) ⊎ (p * columns + s ≡ at → ⊥)
        → (get_or (set marks at true) (p * columns + s) false ≡ true) ↔ Contains (pairs ++ (row, column) ∷ []) (p, s)
    by p s lp ls (inl same) =
        let first = place-row columns row column p s lc ls (same ∙ place) in
        let second = place-column columns row column p s lc ls (same ∙ place) in (
          λ yes. subst (Contains (pairs ++ (row, column) ∷ [])) (ap (λ x. (x, column)) (sym first) ∙ ap (λ y. (p, y)) (sym second)) (Contains-push pairs (row, column)),
          λ there. ap (λ k. get_or (set marks at true) k false) same ∙ get_or-set_same marks at true false (let h = place_within rows columns row column lr lc in let c = are.count in omega arith),
        )
    by p s lp ls (inr other) =
        let kept = get_or-set_other marks at (p * columns + s) true false other in (
          λ yes. Contains-append_left pairs ((row, column) ∷ []) (p, s) ((are.marked p s lp ls).0 (sym kept ∙ yes)),
          λ there. kept ∙ (are.marked p s lp ls).1 (elim (Contains-push_cases pairs (row, column) (p, s) there) [
            | inl before ↦ before
            | inr last ↦ absurd (other (ap (λ (x : ℕ × ℕ). x.0 * columns + x.1) (sym last) ∙ sym place))
          ]),
        )

-- a pair that is there already
pub adds_known : (set : Pairs) (pair : ℕ × ℕ) → Contains set.pairs pair → AddsPairs (λ x. x ≡ pair) set set
adds_known set pair there = record {
  same_rows = refl;
  same_columns = refl;
  begins = ([], sym (append-nil set.pairs));
  added = λ x is. subst (Contains set.pairs) (sym is) there;
  only = λ x contained. inl contained;
}

-- a new pair
pub adds_new : (rows columns : ℕ) (pairs : List (ℕ × ℕ)) (pair : ℕ × ℕ)
    → AddsPairs (λ x. x ≡ pair) (record { rows = rows; columns = columns; pairs = pairs }) (record { rows = rows; columns = columns; pairs = pairs ++ pair ∷ [] })
adds_new rows columns pairs pair = record {
  same_rows = refl;
  same_columns = refl;
  begins = (pair ∷ [], refl);
  added = λ x is. subst (Contains (pairs ++ pair ∷ [])) (sym is) (Contains-push pairs pair);
  only = λ x contained. elim (Contains-push_cases pairs pair x contained) [ inl before ↦ inl before | inr last ↦ inr (sym last) ];
}

-- nothing is added
pub adds_nothing : (P : ℕ × ℕ → Type 0) → ((x : ℕ × ℕ) → P x → ⊥) → (set : Pairs) → AddsPairs P set set
adds_nothing P never set = record {
  same_rows = refl;
  same_columns = refl;
  begins = ([], sym (append-nil set.pairs));
  added = λ x is. absurd (never x is);
  only = λ x contained. inl contained;
}

-- first some pairs and then others
pub adds_both : (P Q R : ℕ × ℕ → Type 0) → ((x : ℕ × ℕ) → R x → P x ⊎ Q x) → ((x : ℕ × ℕ) → P x → R x) → ((x : ℕ × ℕ) → Q x → R x) → (old mid new : Pairs)
    → AddsPairs P old mid → AddsPairs Q mid new → AddsPairs R old new
adds_both P Q R split left right old mid new first second = record {
  same_rows = second.same_rows ∙ first.same_rows;
  same_columns = second.same_columns ∙ first.same_columns;
  begins = (first.begins.0 ++ second.begins.0, second.begins.1 ∙ ap (λ xs. xs ++ second.begins.0) first.begins.1 ∙ append_assoc old.pairs first.begins.0 second.begins.0);
  added = λ x is. elim (split x is) [
    | inl p ↦ subst (λ xs. Contains xs x) (sym second.begins.1) (Contains-append_left mid.pairs second.begins.0 x (first.added x p))
    | inr q ↦ second.added x q
  ];
  only = λ x contained. elim (second.only x contained) [
    | inl before ↦ elim (first.only x before) [ inl earlier ↦ inl earlier | inr p ↦ inr (left x p) ]
    | inr q ↦ inr (right x q)
  ];
}

-- the same pairs by other words
pub adds_same : (P Q : ℕ × ℕ → Type 0) → ((x : ℕ × ℕ) → P x → Q x) → ((x : ℕ × ℕ) → Q x → P x) → (old new : Pairs) → AddsPairs P old new → AddsPairs Q old new
adds_same P Q to from old new adds = record {
  same_rows = adds.same_rows;
  same_columns = adds.same_columns;
  begins = adds.begins;
  added = λ x is. adds.added x (from x is);
  only = λ x contained. elim (adds.only x contained) [ inl before ↦ inl before | inr p ↦ inr (to x p) ];
}
