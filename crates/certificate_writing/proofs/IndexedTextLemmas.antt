-- The text of version 2 of an automaton. The text of edges that are sorted by target is that of their lines, target after target.
use Rattle.std.proofs.Common.{◌≡◌, ℕ, zero, suc, ◌+◌, ◌<◌, ◌≤◌, Bool, true, false, List, [], ◌∷◌, ◌++◌, None, Some, All, cond, not, eqb, ltb}
use Rattle.std.proofs.Common.{◌&&◌, codes, decimal, filter, flat_map, get_or, length, refl, sym, ap, ◌∙◌, arith, inl, inr}
use Rattle.std.specs.List.{range_with_len}
use Rattle.std.specs.List.Sorted.{IsNonDecreasingBy, IsStableByKey, ties}
use Rattle.std.specs.Ordering.{is_lt, nat_cmp}
use Rattle.std.specs.declared.cmp.Ordering.TheVariants.{Less, Equal, Greater}
use Rattle.std.proofs.lemmas.Bool.{cases_eq, cases_order, cond-true, cond-false, eq-eqb, ne_eqb, lt-ltb, le-ltb}
use Rattle.std.proofs.lemmas.List.{append_assoc, append-nil}
use Rattle.std.proofs.lemmas.List.Elements.{All-head, All-tail, filter_agree}
use Rattle.std.proofs.lemmas.List.Sorted.{All-permutation}
use Rattle.word_automata.specs.Path.{edges_of}
use Rattle.word_automata.specs.Automaton.{Automaton, IsValid}
use Rattle.protocol_model.specs.System.{SystemData}
use Rattle.certificate.specs.SafeText.{line_text, lines_text}
use Rattle.certificate_writing.specs.Writing.{final_states}
use Rattle.certificate_writing.specs.private.WritingParts.{opening_text}
use Rattle.certificate_writing.specs.IndexedWriting.{used_letters, indices_between, line_between, indexed_edges_from, indexed_edges, indexed_text}
use Rattle.certificate_writing.specs.private.IndexedWritingParts.{AreByTarget, AreIndicesOf, has_target, line_start, sorted_text, text_between, indices_on, text_from}
use Rattle.certificate_writing.proofs.Ranges.{flat_map_nested}
use Rattle.certificate_writing.proofs.TextLemmas.{text_under-is}
use Rattle.certificate_writing.proofs.LetterIndexLemmas.{indices_between-is}

-- the targets do not fall
abbrev Rise : List (ℕ × ℕ) → Type 0
Rise edges = IsNonDecreasingBy (λ (edge : ℕ × ℕ). edge.1) edges

Rise-tail : (x : ℕ × ℕ) (xs : List (ℕ × ℕ)) → Rise (x ∷ xs) → Rise xs
Rise-tail x xs up = λ i j d le within. up (suc i) (suc j) d (omega arith) (omega arith)

-- all targets are from one on where the first is
all_from : (low : ℕ) (x : ℕ × ℕ) (xs : List (ℕ × ℕ)) → low ≤ x.1 → Rise (x ∷ xs) → All (λ edge. low ≤ edge.1) (x ∷ xs)
all_from low x xs le up = λ k d within.
    let rise : x.1 ≤ (get_or (x ∷ xs) k d).1 = up zero k d (omega arith) within in
    omega (arith, le, rise)

-- the edges to a state before all targets, and those to the target of the first edge
none_to : (q : ℕ) (edges : List (ℕ × ℕ)) → All (λ edge. q + 1 ≤ edge.1) edges → filter (has_target q) edges ≡ []
none_to q [] later = refl
none_to q (x ∷ xs) later =
    let above : q + 1 ≤ x.1 = All-head (λ (edge : ℕ × ℕ). q + 1 ≤ edge.1) x xs later in
    cond-false (eqb x.1 q) (x ∷ filter (has_target q) xs) (filter (has_target q) xs) (ne_eqb x.1 q (λ e. absurd (omega (arith, e, above))))
    ∙ none_to q xs (All-tail (λ (edge : ℕ × ℕ). q + 1 ≤ edge.1) x xs later)

first_to : (q : ℕ) (x : ℕ × ℕ) (xs : List (ℕ × ℕ)) → x.1 ≡ q → filter (has_target q) (x ∷ xs) ≡ x ∷ filter (has_target q) xs
first_to q x xs e = cond-true (eqb x.1 q) (x ∷ filter (has_target q) xs) (filter (has_target q) xs) (eq-eqb x.1 q e)

above_first : (lo r : ℕ) → (r ≡ lo → ⊥) → lo ≤ r → lo + 1 ≤ r
above_first lo r differ le = elim (cases_order r lo) [
  | inl e ↦ absurd (differ e)
  | inr order ↦ elim order [ inl less ↦ omega arith | inr more ↦ omega arith ]
]

regroup : (a d more rest : List ℕ) → (a ++ d) ++ (more ++ 10 ∷ rest) ≡ ((a ++ (d ++ more)) ++ 10 ∷ []) ++ rest
regroup a d more rest = simp append_assoc

module _ (indices : List ℕ) (p : ℕ) where
  -- the indices of these edges, each after a space
  abbrev spaced_indices : List (ℕ × ℕ) → List ℕ
  spaced_indices edges = flat_map (λ i. codes " " ++ decimal i) (indices_on indices edges)

  -- the lines to the states from one on
  abbrev lines_to : List (ℕ × ℕ) → ℕ → ℕ → List ℕ
  lines_to edges lo k = flat_map (λ q. text_between p q (indices_on indices (filter (has_target q) edges))) (range_with_len lo k)

  lines_none : (lo k : ℕ) → lines_to [] lo k ≡ []
  lines_none lo zero = refl
  lines_none lo (suc k) = lines_none (lo + 1) k

  -- an edge to an earlier state is in none of these lines
  lines_skip : (x : ℕ × ℕ) (xs : List (ℕ × ℕ)) (lo k : ℕ) → x.1 < lo → lines_to (x ∷ xs) lo k ≡ lines_to xs lo k
  lines_skip x xs lo zero l = refl
  lines_skip x xs lo (suc k) l =
      let others = filter (has_target lo) xs in
      ap (λ edges. text_between p lo (indices_on indices edges) ++ lines_to (x ∷ xs) (lo + 1) k)
      (cond-false (eqb x.1 lo) (x ∷ others) others (ne_eqb x.1 lo (λ e. absurd (omega (arith, e, l)))))
      ∙ ap (λ text. text_between p lo (indices_on indices others) ++ text) (lines_skip x xs (lo + 1) k (omega arith))

  -- what holds of the text before whose first edge no line was begun, for so many states
  abbrev AreLines : ℕ → Type 0
  AreLines k =
      (lo : ℕ) (xs : List (ℕ × ℕ)) → Rise xs → All (λ edge. lo ≤ edge.1) xs → All (λ edge. edge.1 < lo + k) xs
      → sorted_text indices p None xs ≡ lines_to xs lo k

  -- the text after a line was begun: the other indices of this line, and later lines
  begun : (k : ℕ) → AreLines k → (lo : ℕ) (xs : List (ℕ × ℕ)) → Rise xs → All (λ edge. lo ≤ edge.1) xs
      → All (λ edge. edge.1 < (lo + 1) + k) xs
      → sorted_text indices p (Some lo) xs ≡ spaced_indices (filter (has_target lo) xs) ++ 10 ∷ lines_to xs (lo + 1) k
  begun k later lo [] up low high = ap (λ rest. 10 ∷ rest) (sym (lines_none (lo + 1) k))
  begun k later lo (x ∷ xs) up low high =
      let others = filter (has_target lo) xs in
      let first_low : lo ≤ x.1 = All-head (λ (edge : ℕ × ℕ). lo ≤ edge.1) x xs low in
      elim (cases_eq x.1 lo) [
        | inl same ↦
            let here : List ℕ = codes " " ++ decimal (get_or indices x.0 0) in
            ap (λ before. (before ++ codes " " ++ decimal (get_or indices x.0 0)) ++ sorted_text indices p (Some x.1) xs)
            (cond-true (eqb lo x.1) [] (10 ∷ line_start p x.1) (eq-eqb lo x.1 (sym same)))
            ∙ ap (λ r. here ++ sorted_text indices p (Some r) xs) same
            ∙ ap (λ text. here ++ text)
            (begun k later lo xs (Rise-tail x xs up) (All-tail (λ (edge : ℕ × ℕ). lo ≤ edge.1) x xs low)
            (All-tail (λ (edge : ℕ × ℕ). edge.1 < (lo + 1) + k) x xs high))
            ∙ sym (append_assoc here (spaced_indices others) (10 ∷ lines_to xs (lo + 1) k))
            ∙ ap (λ lines. (here ++ spaced_indices others) ++ 10 ∷ lines) (sym (lines_skip x xs (lo + 1) k (omega (arith, same))))
            ∙ ap (λ edges. spaced_indices edges ++ 10 ∷ lines_to (x ∷ xs) (lo + 1) k) (sym (first_to lo x xs same))
        | inr differ ↦
            let above : lo + 1 ≤ x.1 = above_first lo x.1 differ first_low in
            let all_above = all_from (lo + 1) x xs above up in
            ap (λ before. (before ++ codes " " ++ decimal (get_or indices x.0 0)) ++ sorted_text indices p (Some x.1) xs)
            (cond-false (eqb lo x.1) [] (10 ∷ line_start p x.1) (ne_eqb lo x.1 (λ e. differ (sym e))))
            ∙ ap (λ text. 10 ∷ text) (later (lo + 1) (x ∷ xs) up all_above high)
            ∙ ap (λ edges. spaced_indices edges ++ 10 ∷ lines_to (x ∷ xs) (lo + 1) k) (sym (none_to lo (x ∷ xs) all_above))
      ]

  -- the text is that of the lines
  by_lines : (k : ℕ) → AreLines k
  by_lines zero lo [] up low high = refl
  by_lines zero lo (x ∷ xs) up low high =
      absurd (omega (arith, All-head (λ (edge : ℕ × ℕ). lo ≤ edge.1) x xs low, All-head (λ (edge : ℕ × ℕ). edge.1 < lo + zero) x xs high))
  by_lines (suc k) lo [] up low high = sym (lines_none lo (suc k))
  by_lines (suc k) lo (x ∷ xs) up low high =
      let others = filter (has_target lo) xs in
      let first_low : lo ≤ x.1 = All-head (λ (edge : ℕ × ℕ). lo ≤ edge.1) x xs low in
      let below : All (λ edge. edge.1 < (lo + 1) + k) (x ∷ xs) = λ i d within. omega (arith, high i d within) in
      elim (cases_eq x.1 lo) [
        | inl same ↦
            let start : List ℕ = line_start p lo ++ codes " " in
            let index : List ℕ = decimal (get_or indices x.0 0) in
            ap (λ r. (line_start p r ++ codes " " ++ index) ++ sorted_text indices p (Some r) xs) same
            ∙ ap (λ text. (start ++ index) ++ text)
            (begun k (by_lines k) lo xs (Rise-tail x xs up) (All-tail (λ (edge : ℕ × ℕ). lo ≤ edge.1) x xs low)
            (All-tail (λ (edge : ℕ × ℕ). edge.1 < (lo + 1) + k) x xs below))
            ∙ regroup start index (spaced_indices others) (lines_to xs (lo + 1) k)
            ∙ ap (λ lines. text_between p lo (indices_on indices (x ∷ others)) ++ lines)
            (sym (lines_skip x xs (lo + 1) k (omega (arith, same))))
            ∙ ap (λ edges. text_between p lo (indices_on indices edges) ++ lines_to (x ∷ xs) (lo + 1) k) (sym (first_to lo x xs same))
        | inr differ ↦
            let all_above = all_from (lo + 1) x xs (above_first lo x.1 differ first_low) up in
            by_lines k (lo + 1) (x ∷ xs) up all_above below
            ∙ ap (λ edges. text_between p lo (indices_on indices edges) ++ lines_to (x ∷ xs) (lo + 1) k) (sym (none_to lo (x ∷ xs) all_above))
      ]

  -- the text of sorted edges is that of the lines of the edges before they were sorted
  pub sorted_text-is : (count : ℕ) (edges sorted : List (ℕ × ℕ)) → AreByTarget edges sorted → All (λ edge. edge.1 < count) edges
      → sorted_text indices p None sorted ≡ lines_to edges 0 count
  sorted_text-is count edges sorted h within =
      let all = All-permutation (λ (edge : ℕ × ℕ). edge.1 < count) edges sorted h.permutation within in
      by_lines count 0 sorted h.in_order (λ k d inside. omega arith) (λ k d inside. omega (arith, all k d inside))
      ∙ (λ i. flat_map (λ q. text_between p q (indices_on indices (h.stable q i))) (range_with_len 0 count))

-- a stable sort by target keeps the edges to one state in their order
is_lt_at : (x y : ℕ) → x < y → is_lt (nat_cmp x y) ≡ true
is_lt_at x y l = ap is_lt (cond-true (ltb x y) Less (cond (eqb x y) Equal Greater) (lt-ltb x y l))

not_lt_at : (x y : ℕ) → y ≤ x → is_lt (nat_cmp x y) ≡ false
not_lt_at x y l = ap is_lt (cond-false (ltb x y) Less (cond (eqb x y) Equal Greater) (le-ltb x y l)) ∙ after (eqb x y)
  where
    after : (b : Bool) → is_lt (cond b Equal Greater) ≡ false
    after true = refl
    after false = refl

ties_target : (q : ℕ) (edge : ℕ × ℕ) → ties (λ x y. is_lt (nat_cmp x.1 y.1)) (0, q) edge ≡ has_target q edge
ties_target q edge = elim (cases_order q edge.1) [
  | inl same ↦
      (λ i. not (not_lt_at q edge.1 (omega (arith, same)) i) && not (not_lt_at edge.1 q (omega (arith, same)) i))
      ∙ sym (eq-eqb edge.1 q (sym same))
  | inr order ↦ elim order [
    | inl less ↦
        ap (λ b. not b && not (is_lt (nat_cmp edge.1 q))) (is_lt_at q edge.1 less)
        ∙ sym (ne_eqb edge.1 q (λ e. absurd (omega (arith, e, less))))
    | inr more ↦
        (λ i. not (not_lt_at q edge.1 (omega (arith, more)) i) && not (is_lt_at edge.1 q more i))
        ∙ sym (ne_eqb edge.1 q (λ e. absurd (omega (arith, e, more))))
  ]
]

pub stable_by_target : (edges sorted : List (ℕ × ℕ)) → IsStableByKey (λ edge. edge.1) nat_cmp edges sorted → (q : ℕ)
    → filter (has_target q) sorted ≡ filter (has_target q) edges
stable_by_target edges sorted stable q =
    let key : ℕ × ℕ → ℕ × ℕ → Bool = λ x y. is_lt (nat_cmp x.1 y.1) in
    sym (filter_agree (ties key (0, q)) (has_target q) (ties_target q) sorted)
    ∙ stable (0, q)
    ∙ filter_agree (ties key (0, q)) (has_target q) (ties_target q) edges

-- the text of version 2 of an automaton
text_between-is : (s : SystemData) (p q : ℕ) (indices : List ℕ) → lines_text s (line_between p q indices) ≡ text_between p q indices
text_between-is s p q [] = refl
text_between-is s p q (i ∷ indices) = append-nil (text_between p q (i ∷ indices))

module _ (s : SystemData) (m : Automaton) (valid : IsValid m) (indices : List ℕ) (h : AreIndicesOf (used_letters m) m.letters indices) where
  text_from-is : (p : ℕ) → text_from indices m p ≡ lines_text s (indexed_edges_from m (used_letters m) p)
  text_from-is p =
      let between : ℕ → List ℕ = λ q. indices_between m (used_letters m) p q in
      let same : (q : ℕ) → lines_text s (line_between p q (between q))
      ≡ text_between p q (indices_on indices (filter (has_target q) (edges_of m.states p))) =
      λ q. text_between-is s p q (between q) ∙ ap (text_between p q) (indices_between-is m valid indices h p q) in
      sym (flat_map_nested (λ x. line_text s x ++ 10 ∷ []) (λ q. line_between p q (between q)) (range_with_len 0 (length m.states))
      ∙ (λ i. flat_map (λ q. same q i) (range_with_len 0 (length m.states))))

  edges_text-is : flat_map (text_from indices m) (range_with_len 0 (length m.states)) ≡ lines_text s (indexed_edges m (used_letters m))
  edges_text-is =
      (λ i. flat_map (λ p. text_from-is p i) (range_with_len 0 (length m.states)))
      ∙ sym (flat_map_nested (λ x. line_text s x ++ 10 ∷ []) (indexed_edges_from m (used_letters m)) (range_with_len 0 (length m.states)))

  pub indexed_text-is :
      (opening_text (codes "armc 2 safe") (used_letters m) s m ++ flat_map (text_from indices m) (range_with_len 0 (length m.states)))
      ++ (codes "end" ++ 10 ∷ [])
      ≡ indexed_text s m
  indexed_text-is =
      ap (λ text. (opening_text (codes "armc 2 safe") (used_letters m) s m ++ text) ++ (codes "end" ++ 10 ∷ [])) edges_text-is
      ∙ text_under-is (codes "armc 2 safe") (used_letters m) s (length m.states) (final_states m) (indexed_edges m (used_letters m))
