-- The indices of the letters that lead from one state to another, by its edges and the index of each letter.
use Rattle.std.proofs.Common.{◌≡◌, ℕ, zero, suc, ◌+◌, ◌<◌, ◌≤◌, ◌||◌, take, Bool, true, false, List, [], ◌∷◌, Option, None, Some, All, Contains, length, map}
use Rattle.std.proofs.Common.{cond, eqb, filter, get_or, refl, sym, ap, subst, ◌∙◌, arith, inl, inr}
use Rattle.std.specs.List.{list_any, range_with_len}
use Rattle.std.proofs.lemmas.Bool.{cases_eq, cases_Bool, cond-false, eq-eqb, eqb-true, false≢true, true≢false}
use Rattle.std.proofs.lemmas.List.Elements.{All-head, All-tail, All-cons, All-nil, All-weaker}
use Rattle.std.proofs.lemmas.List.Folds.{list_any_at, list_any_more}
use Rattle.word_automata.specs.Path.{Node, edges_of}
use Rattle.word_automata.specs.Automaton.{Automaton, find_target, target, HasIncreasingLetters, IsValid}
use Rattle.word_automata.proofs.ForCallers.{found_edge, leads_within, All-edges_of, edges_of-get_or, ordered_edges}
use Rattle.certificate_writing.specs.IndexedWriting.{has_letter, labels_edge, used_letters, leads_to, indices_between}
use Rattle.certificate_writing.specs.private.IndexedWritingParts.{AreIndicesOf, has_target, indices_on}
use Rattle.certificate.proofs.ForCallers.{first_target, later_target, below_target}

-- where a letter leads
pub leads_is : (o : Option ℕ) (q : ℕ) → leads_to o q ≡ true → o ≡ Some q
leads_is None q h = absurd (false≢true h)
leads_is (Some r) q h = ap Some (eqb-true r q h)

pub leads_at : (o : Option ℕ) (q : ℕ) → o ≡ Some q → leads_to o q ≡ true
leads_at o q e = ap (λ o. leads_to o q) e ∙ eq-eqb q q refl

-- a letter that leads somewhere labels an edge
pub leads_labels : (m : Automaton) (p a r : ℕ) → target m p a ≡ Some r → labels_edge m a ≡ true
leads_labels m p a r leads =
    let edges = edges_of m.states p in
    let none : Node ℕ = record { accepting = false; edges = [] } in
    let found : Contains edges (a, r) = found_edge edges a r leads in
    let same : (get_or edges found.0 (a, r)).0 ≡ a = ap (λ (edge : ℕ × ℕ). edge.0) found.2 in
    let has : has_letter edges a ≡ true = list_any_at (λ edge. eqb edge.0 a) edges found.0 (a, r) found.1 (eq-eqb _ a same) in
    let within : p < length m.states = leads_within m p a r leads in
    list_any_at (λ node. has_letter node.edges a) m.states p none within
    (subst (λ (es : List (ℕ × ℕ)). has_letter es a ≡ true) (edges_of-get_or m.states p none within) has)

-- a letter is on an edge of one more state
pub labels_more : (states : List (Node ℕ)) (i a : ℕ) → i < length states
    → (list_any (λ node. has_letter node.edges a) (take i states) || has_letter (edges_of states i) a)
    ≡ list_any (λ node. has_letter node.edges a) (take (i + 1) states)
labels_more states i a l =
    let none : Node ℕ = record { accepting = false; edges = [] } in
    ap (λ edges. list_any (λ node. has_letter node.edges a) (take i states) || has_letter edges a) (edges_of-get_or states i none l)
    ∙ sym (list_any_more (λ node. has_letter node.edges a) states i none l)

-- of letters from one on, those that lead to q are those of the edges to q
module _ (leads : ℕ → Bool) (index : ℕ → ℕ) (q : ℕ) where
  abbrev own : ℕ × ℕ → ℕ
  own edge = index edge.0

  both : (b : Bool) (lo : ℕ) (x : ℕ × ℕ) (rest : List ℕ) (others : List (ℕ × ℕ)) → x.0 ≡ lo → map index rest ≡ map own others
      → map index (cond b (lo ∷ rest) rest) ≡ map own (cond b (x ∷ others) others)
  both true lo x rest others same e = λ i. index (sym same i) ∷ e i
  both false lo x rest others same e = e

  letters_to : (k lo : ℕ) (edges : List (ℕ × ℕ)) → ((a : ℕ) → lo ≤ a → leads a ≡ leads_to (find_target edges a) q)
      → HasIncreasingLetters edges → All (λ edge. lo ≤ edge.0) edges → All (λ edge. edge.0 < lo + k) edges
      → map index (filter leads (range_with_len lo k)) ≡ map own (filter (has_target q) edges)
  letters_to zero lo [] agree sorted low high = refl
  letters_to zero lo (x ∷ xs) agree sorted low high =
      absurd (omega (arith, All-head (λ (edge : ℕ × ℕ). lo ≤ edge.0) x xs low, All-head (λ (edge : ℕ × ℕ). edge.0 < lo + zero) x xs high))
  letters_to (suc k) lo [] agree sorted low high =
      let rest = filter leads (range_with_len (lo + 1) k) in
      ap (λ b. map index (cond b (lo ∷ rest) rest)) (agree lo (omega arith))
      ∙ letters_to k (lo + 1) [] (λ a le. agree a (omega arith)) tt
      (All-nil (λ (edge : ℕ × ℕ). lo + 1 ≤ edge.0)) (All-nil (λ (edge : ℕ × ℕ). edge.0 < (lo + 1) + k))
  letters_to (suc k) lo (x ∷ xs) agree sorted low high =
      let rest = filter leads (range_with_len (lo + 1) k) in
      let others = filter (has_target q) xs in
      let first_low : lo ≤ x.0 = All-head (λ (edge : ℕ × ℕ). lo ≤ edge.0) x xs low in
      let below : All (λ edge. edge.0 < (lo + 1) + k) (x ∷ xs) = λ i d within. omega (arith, high i d within) in
      elim (cases_eq x.0 lo) [
        | inl same ↦
            let later : All (λ edge. lo + 1 ≤ edge.0) xs =
            All-weaker (λ (edge : ℕ × ℕ). x.0 < edge.0) (λ (edge : ℕ × ℕ). lo + 1 ≤ edge.0) (λ edge l. omega (arith, same)) xs sorted.0 in
            ap (λ b. map index (cond b (lo ∷ rest) rest)) (agree lo (omega arith) ∙ ap (λ o. leads_to o q) (first_target x xs lo same))
            ∙ both (eqb x.1 q) lo x rest others same
            (letters_to k (lo + 1) xs
            (λ a le. agree a (omega arith) ∙ ap (λ o. leads_to o q) (later_target x xs a (λ e. absurd (omega (arith, e, same, le)))))
            sorted.1 later (All-tail (λ (edge : ℕ × ℕ). edge.0 < (lo + 1) + k) x xs below))
        | inr differ ↦
            let above : lo < x.0 = strictly lo x.0 differ first_low in
            let all_above : All (λ edge. lo < edge.0) (x ∷ xs) =
            All-cons (λ (edge : ℕ × ℕ). lo < edge.0) x xs above
            (All-weaker (λ (edge : ℕ × ℕ). x.0 < edge.0) (λ (edge : ℕ × ℕ). lo < edge.0) (λ edge l. omega (arith, above)) xs sorted.0) in
            ap (λ b. map index (cond b (lo ∷ rest) rest)) (agree lo (omega arith) ∙ ap (λ o. leads_to o q) (below_target (x ∷ xs) lo all_above))
            ∙ letters_to k (lo + 1) (x ∷ xs) (λ a le. agree a (omega arith)) sorted
            (All-weaker (λ (edge : ℕ × ℕ). lo < edge.0) (λ (edge : ℕ × ℕ). lo + 1 ≤ edge.0) (λ edge l. omega arith) (x ∷ xs) all_above) below
      ]
    where
      strictly : (lo r : ℕ) → (r ≡ lo → ⊥) → lo ≤ r → lo < r
      strictly lo r differ le = elim (cases_eq r lo) [ inl e ↦ absurd (differ e) | inr ne ↦ omega (arith, ne) ]

-- the positions of the elements that pass are their indices
module _ (test : ℕ → Bool) (index : ℕ → ℕ) where
  positions : (xs : List ℕ) (lo : ℕ) (at : ℕ → ℕ) → ((j : ℕ) → j < length xs → at (lo + j) ≡ get_or xs j 0)
      → ((j : ℕ) → j < length xs → index (get_or xs j 0) ≡ lo + j)
      → filter (λ i. test (at i)) (range_with_len lo (length xs)) ≡ map index (filter test xs)
  positions [] lo at reads places = refl
  positions (x ∷ xs) lo at reads places =
      let rest = filter (λ i. test (at i)) (range_with_len (lo + 1) (length xs)) in
      let here : at lo ≡ x = ap at (let same : lo ≡ lo + 0 = omega arith in same) ∙ reads 0 (omega arith) in
      let place : index x ≡ lo = places 0 (omega arith) ∙ (let same : lo + 0 ≡ lo = omega arith in same) in
      ap (λ a. cond (test a) (lo ∷ rest) rest) here
      ∙ by (test x) rest (filter test xs) place
      (positions xs (lo + 1) at
      (λ j l. ap at (let same : (lo + 1) + j ≡ lo + suc j = omega arith in same) ∙ reads (suc j) (omega arith))
      (λ j l. places (suc j) (omega arith) ∙ (let same : lo + suc j ≡ (lo + 1) + j = omega arith in same)))
    where
      by : (b : Bool) (rest others : List ℕ) → index x ≡ lo → rest ≡ map index others → cond b (lo ∷ rest) rest ≡ map index (cond b (x ∷ others) others)
      by true rest others place e = λ i. sym place i ∷ e i
      by false rest others place e = e

-- a filter before a stronger one changes nothing
filter_stronger : (p u : ℕ → Bool) → ((x : ℕ) → p x ≡ true → u x ≡ true) → (xs : List ℕ) → filter p (filter u xs) ≡ filter p xs
filter_stronger p u h [] = refl
filter_stronger p u h (x ∷ xs) = by (u x) refl (filter_stronger p u h xs)
  where
    by : (b : Bool) → u x ≡ b → filter p (filter u xs) ≡ filter p xs → filter p (cond (u x) (x ∷ filter u xs) (filter u xs)) ≡ filter p (x ∷ xs)
    by true e later =
        ap (λ b. filter p (cond b (x ∷ filter u xs) (filter u xs))) e ∙ (λ i. cond (p x) (x ∷ later i) (later i))
    by false e later =
        ap (λ b. filter p (cond b (x ∷ filter u xs) (filter u xs))) e ∙ later
        ∙ sym (cond-false (p x) (x ∷ filter p xs) (filter p xs) (elim (cases_Bool (p x)) [
          | inl pass ↦ absurd (true≢false (sym (h x pass) ∙ e))
          | inr fail ↦ fail
        ]))

-- the indices of the edges from p to q are those of the letters that lead from p to q
pub indices_between-is : (m : Automaton) → IsValid m → (indices : List ℕ) → AreIndicesOf (used_letters m) m.letters indices → (p q : ℕ)
    → indices_between m (used_letters m) p q ≡ indices_on indices (filter (has_target q) (edges_of m.states p))
indices_between-is m valid indices h p q =
    let edges = edges_of m.states p in
    let used = used_letters m in
    let leads : ℕ → Bool = λ a. leads_to (target m p a) q in
    let index : ℕ → ℕ = λ a. get_or indices a 0 in
    positions leads index used 0 (λ i. get_or used i 0)
    (λ j l. ap (λ i. get_or used i 0) (let same : 0 + j ≡ j = omega arith in same))
    (λ j l. h.at j l ∙ (let same : j ≡ 0 + j = omega arith in same))
    ∙ ap (map index) (filter_stronger leads (labels_edge m) (λ a e. leads_labels m p a q (leads_is (target m p a) q e)) (range_with_len 0 m.letters))
    ∙ letters_to leads index q m.letters 0 edges (λ a le. refl) (ordered_edges m valid p) (λ k d within. omega arith)
    (λ k d within.
    let inside : (get_or edges k d).0 < m.letters =
    All-edges_of (All (λ edge. edge.0 < m.letters)) m.states (All-nil (λ (edge : ℕ × ℕ). edge.0 < m.letters)) valid.letters_in_range p k d within in
    omega (arith, inside))
