-- The search for pairs of states that share a word, pair by pair.
use Rattle.std.proofs.Common.{◌≡◌, ◌<◌, ◌≤◌, ◌+◌, ◌⊎◌, ℕ, Vec, List, [], ◌∷◌, ◌++◌, All, Some, Contains, IsTrue, length, get_or, slice_get, sym, ap, subst, ◌∙◌, inl, inr, arith}
use Rattle.std.proofs.lemmas.Bool.{cases_lt}
use Rattle.std.proofs.lemmas.List.{get_or_append_left, get_or_default, length-append, length_push}
use Rattle.std.proofs.lemmas.List.Elements.{Contains-append_left, Contains-get_or}
use Rattle.std.specs.List.Sorted.{IsPermutation, IsNonDecreasingBy}
use Rattle.std.proofs.lemmas.List.Sorted.{Contains-permutation, IsPermutation-sym}
use Rattle.std.proofs.lemmas.Option.{slice_get-get_or, slice_get_within}
use Rattle.word_automata.specs.Path.{edges_of}
use Rattle.word_automata.specs.Automaton.{Automaton, accepts_from, IsValid}
use Rattle.word_automata.proofs.ForCallers.{accepting_within, Contains-none, All-from_contains}
use Rattle.exploration.specs.Incoming.{Chains, AreIncoming, AddsMoves}
use Rattle.exploration.proofs.ForCallers.{slice_get-push_cases}
use Rattle.predicate_abstraction.specs.Predicates.{SharesWord}
use Rattle.predicate_abstraction.specs.private.Pairs.{Pairs, AddsPairs}
use Rattle.predicate_abstraction.specs.private.SharedWords.{AreShared, SharesWords, AreAccepting, AreSources, AreEdgesInto, AreEdgesByTarget}
use Rattle.predicate_abstraction.proofs.Edges.{accepts_along, accepts_first, edge_within}

-- the pairs of accepting states
pub shares_accepting : (a b : Automaton) (old new : Pairs) → old.rows ≡ length a.states → old.columns ≡ length b.states → old.pairs ≡ [] → (i : ℕ) → length a.states ≤ i
    → AddsPairs (AreAccepting a b i) old new → SharesWords a b new 0
shares_accepting a b old new rows columns empty i all adds = record {
  rows = adds.same_rows ∙ rows;
  columns = adds.same_columns ∙ columns;
  within = omega arith;
  sound = λ p s there. elim (adds.only (p, s) there) [
    | inl before ↦ absurd (Contains-none (p, s) (subst (λ xs. Contains xs (p, s)) empty before))
    | inr accept ↦ ([], accept.1, accept.3)
  ];
  accepting = λ p s left right. adds.added (p, s) (let l = accepting_within a.states p left in omega arith, left, accepting_within b.states s right, right);
  led = λ k letter p s below. absurd (omega arith);
}

-- what is put into an empty list, sorted by letters
pub list_into : (a : Automaton) (chains : Chains) → AreIncoming a chains → (q : ℕ) (none moves sorted : List (ℕ × ℕ)) → none ≡ []
    → AddsMoves chains q none moves → IsPermutation moves sorted → IsNonDecreasingBy (λ (move : ℕ × ℕ). move.0) sorted → AreEdgesInto a q sorted
list_into a chains incoming q none moves sorted empty adds reordered rises = record {
  same = λ move. (
    λ there. elim (adds.only move (Contains-permutation sorted moves move (IsPermutation-sym moves sorted reordered) there)) [
      | inl before ↦ absurd (Contains-none move (subst (λ xs. Contains xs move) empty before))
      | inr into ↦ incoming.sound q move into
    ],
    λ edge. Contains-permutation moves sorted move reordered (adds.added move (incoming.complete move.1 move.0 q edge)),
  );
  ordered = rises;
}

-- one more list
pub lists_none : {A : Type 0} → (a : Automaton) → IsValid a → (lists : List (Vec (ℕ × ℕ) A)) → lists ≡ [] → AreEdgesByTarget a lists 0
lists_none a valid lists none = record {
  valid = valid;
  count = ap length none;
  each = λ q list is. absurd (let w = slice_get_within lists q list is in let e = ap length none in omega arith);
}

pub lists_more : {A : Type 0} → (a : Automaton) (lists : List (Vec (ℕ × ℕ) A)) (n : ℕ) (list : Vec (ℕ × ℕ) A)
    → AreEdgesByTarget a lists n → AreEdgesInto a n list.items → AreEdgesByTarget a (lists ++ list ∷ []) (n + 1)
lists_more {A} a lists n list before edges = record {
  valid = before.valid;
  count = length_push lists list ∙ ap (λ k. k + 1) before.count;
  each = λ q other is. by q other (slice_get-push_cases lists list other q is);
}
  where
    by : (q : ℕ) (other : Vec (ℕ × ℕ) A) → (slice_get lists q ≡ Some other) ⊎ ((q ≡ length lists) × (list ≡ other))
        → AreEdgesInto a q other.items
    by q other (inl old) = before.each q other old
    by q other (inr (last, same)) =
        subst (λ (v : Vec (ℕ × ℕ) A). AreEdgesInto a q v.items) same
        (subst (λ x. AreEdgesInto a x list.items) (sym (last ∙ before.count)) edges)

-- the list of a state
pub list_at : {A : Type 0} → (a : Automaton) (lists : List (Vec (ℕ × ℕ) A)) (n : ℕ) → AreEdgesByTarget a lists n
    → (p : ℕ) (list : Vec (ℕ × ℕ) A) (moves : List (ℕ × ℕ)) → p < n → list ≡ get_or lists p list → moves ≡ list.items
    → AreEdgesInto a p moves
list_at a lists n each p list moves within read same =
    subst (AreEdgesInto a p) (sym same)
    (each.each p list (slice_get-get_or lists p list (let c = each.count in omega arith) ∙ ap Some (sym read)))

-- their sources are states
pub sources_within : (a : Automaton) (size : ℕ) → size ≡ length a.states → (q : ℕ) (moves : List (ℕ × ℕ)) → AreEdgesInto a q moves
    → All (λ move. move.1 < size) moves
sources_within a size same q moves are =
    All-from_contains (λ (move : ℕ × ℕ). move.1 < size) moves
    (λ move there. let l = edge_within a move.1 move.0 q ((are.same move).0 there) in omega arith)

-- one more pair
module _ (a b : Automaton) (valid_a : IsValid a) (valid_b : IsValid b) (old new : Pairs) (next : ℕ) (pair : ℕ × ℕ) (into_p into_s : List (ℕ × ℕ))
    (are_p : AreEdgesInto a pair.0 into_p) (are_s : AreEdgesInto b pair.1 into_s) (there : next < length old.pairs) (read : get_or old.pairs next (0, 0) ≡ pair)
    (adds : AddsPairs (AreSources into_p into_s) old new) (before : SharesWords a b old next) where
  kept : (x : ℕ × ℕ) → Contains old.pairs x → Contains new.pairs x
  kept x contained = subst (λ xs. Contains xs x) (sym adds.begins.1) (Contains-append_left old.pairs adds.begins.0 x contained)

  same : (k : ℕ) → k < length old.pairs → get_or new.pairs k (0, 0) ≡ get_or old.pairs k (0, 0)
  same k within = ap (λ xs. get_or xs k (0, 0)) adds.begins.1 ∙ get_or_append_left old.pairs adds.begins.0 (0, 0) k within

  longer : length old.pairs ≤ length new.pairs
  longer = let e = ap length adds.begins.1 in let l = length-append old.pairs adds.begins.0 in omega arith

  word : SharesWord a pair.0 b pair.1
  word = before.sound pair.0 pair.1 (subst (Contains old.pairs) read (Contains-get_or old.pairs next (0, 0) there))

  sources : (p s : ℕ) → AreSources into_p into_s (p, s) → SharesWord a p b s
  sources p s (letter, left, right) = (
    letter ∷ word.0,
    accepts_along a valid_a p letter pair.0 word.0 ((are_p.same (letter, p)).0 left) word.1,
    accepts_along b valid_b s letter pair.1 word.0 ((are_s.same (letter, s)).0 right) word.2,
  )

  pub shares_more : SharesWords a b new (next + 1)
  shares_more = record {
    rows = adds.same_rows ∙ before.rows;
    columns = adds.same_columns ∙ before.columns;
    within = let l = longer in omega arith;
    sound = λ p s contained. elim (adds.only (p, s) contained) [ inl earlier ↦ before.sound p s earlier | inr new ↦ sources p s new ];
    accepting = λ p s left right. kept (p, s) (before.accepting p s left right);
    led = λ k letter p s below left right. elim (cases_lt k next) [
      | inl earlier ↦
          let e = same k (omega arith) in
          kept (p, s) (before.led k letter p s earlier (subst (λ (x : ℕ × ℕ). Contains (edges_of a.states p) (letter, x.0)) e left)
          (subst (λ (x : ℕ × ℕ). Contains (edges_of b.states s) (letter, x.1)) e right))
      | inr from ↦
          let e : get_or new.pairs k (0, 0) ≡ pair = ap (λ j. get_or new.pairs j (0, 0)) {x = k} {y = next} (omega arith) ∙ same next there ∙ read in
          adds.added (p, s) (
            letter,
            (are_p.same (letter, p)).1 (subst (λ (x : ℕ × ℕ). Contains (edges_of a.states p) (letter, x.0)) e left),
            (are_s.same (letter, s)).1 (subst (λ (x : ℕ × ℕ). Contains (edges_of b.states s) (letter, x.1)) e right),
          )
    ];
  }

-- all pairs: whoever shares a word is there
module _ (a b : Automaton) (set : Pairs) (next : ℕ) (all : length set.pairs ≤ next) (shares : SharesWords a b set next) where
  found : (w : List ℕ) (p s : ℕ) → IsTrue (accepts_from a p w) → IsTrue (accepts_from b s w) → Contains set.pairs (p, s)
  found [] p s left right = shares.accepting p s left right
  found (letter ∷ w) p s left right =
      let x = accepts_first a p letter w left in
      let y = accepts_first b s letter w right in
      let to = found w x.0 y.0 x.2 y.2 in
      let read : get_or set.pairs to.0 (0, 0) ≡ (x.0, y.0) = get_or_default set.pairs to.0 (0, 0) (x.0, y.0) to.1 ∙ to.2 in
      shares.led to.0 letter p s (let l = to.1 in omega arith)
      (subst (λ (z : ℕ × ℕ). Contains (edges_of a.states p) (letter, z.0)) (sym read) x.1)
      (subst (λ (z : ℕ × ℕ). Contains (edges_of b.states s) (letter, z.1)) (sym read) y.1)

  pub shares_all : AreShared a b set
  shares_all = record {
    rows = shares.rows;
    columns = shares.columns;
    shared = λ p s. (shares.sound p s, λ word. found word.0 p s word.1 word.2);
  }
