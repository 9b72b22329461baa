-- Canonical automata of one language are equal as data, and least.
use Rattle.std.proofs.Common.{◌≡◌, ◌<◌, ◌≤◌, inl, inr, ℕ, zero, suc, Bool, true, false, List, [], ◌∷◌, ◌++◌, Option, None, Some, length, refl, sym, ap, subst, ◌∙◌, arith, IsTrue, All, nat_eq}
use Rattle.std.proofs.lemmas.Bool.{cases_order, cases_lt, true≢false, or_cases, or_left, or_right, ne_eqb, eq-eqb, eqb-true}
use Rattle.std.proofs.lemmas.Map.Steps.{length-le_from_distinct_below}
use Rattle.std.specs.List.{list_any, IsDistinct, AllByRecursion}
use Rattle.sequence.specs.WordOrder.{IsLeastWord}
use Rattle.word_automata.specs.Path.{Node, edges_of, is_accepting}
use Rattle.word_automata.specs.Automaton.{Automaton, target, accepts, accepts_from}
use Rattle.std.proofs.lemmas.List.Elements.{All-nil}
use Rattle.word_automata.proofs.ForCallers.{All-edges_of, find_target_within}
use Rattle.exploration.specs.Numbering.{run_from, Reaches}
use Rattle.exploration.proofs.ForCallers.{is_before-asymmetric, accepts_from-append, run_from-accepted, look_up-edges}
use Rattle.minimise.specs.Canonical.{IsCanonical, SameLanguage, CanonicalIsUnique, CanonicalIsLeast}
use Rattle.minimise.proofs.Edges.{accepts_from-past, edges_of-increasing, edges_differ}

-- a run that an accepted word goes on ends at a state
run-live : (m : Automaton) (u w : List ℕ) (r : ℕ) → run_from m 0 u ≡ Some r → IsTrue (accepts m (u ++ w)) → r < length m.states
run-live m u w r h k = elim (cases_lt r (length m.states)) [
  | inl there ↦ there
  | inr past ↦ absurd (true≢false (sym k ∙ accepts_from-append m 0 u w r h ∙ accepts_from-past m r w past))
]

-- states of a canonical automaton that accept the same words are one state
same_state : (m : Automaton) → IsCanonical m → (p q : ℕ) → p < length m.states → q < length m.states → ((w : List ℕ) → accepts_from m p w ≡ accepts_from m q w) → p ≡ q
same_state m c p q h k same = elim (cases_order p q) [
  | inl e ↦ e
  | inr (inl less) ↦ let a = c.told_apart p q less k in absurd (a.1 (same a.0))
  | inr (inr more) ↦ let a = c.told_apart q p more h in absurd (a.1 (sym (same a.0)))
]

module _ (m n : Automaton) (c : IsCanonical m) (same : SameLanguage m n) where
  -- states to which one word leads accept the same words
  matched : (u : List ℕ) (q r : ℕ) → run_from m 0 u ≡ Some q → run_from n 0 u ≡ Some r → (w : List ℕ) → accepts_from m q w ≡ accepts_from n r w
  matched u q r h k w = sym (accepts_from-append m 0 u w q h) ∙ same (u ++ w) ∙ accepts_from-append n 0 u w r k

  least_word : (q : ℕ) → q < length m.states → List ℕ
  least_word q l = (c.breadth_first.reached q l).0

  least_word-is : (q : ℕ) (l : q < length m.states) → IsLeastWord (Reaches m q) (least_word q l)
  unfolding least_word
  least_word-is q l = (c.breadth_first.reached q l).1

  live_word : (q : ℕ) (l : q < length m.states) → IsTrue (accepts n (least_word q l ++ (c.live q l).0))
  live_word q l = sym (same (least_word q l ++ (c.live q l).0)) ∙ accepts_from-append m 0 (least_word q l) (c.live q l).0 q (least_word-is q l).0 ∙ (c.live q l).1

  -- the state of n to which the least word of the state q leads
  partner : (q : ℕ) → q < length m.states → ℕ
  partner q l = (run_from-accepted n 0 (least_word q l) (c.live q l).0 (live_word q l)).0

  partner-run : (q : ℕ) (l : q < length m.states) → run_from n 0 (least_word q l) ≡ Some (partner q l)
  unfolding partner
  partner-run q l = (run_from-accepted n 0 (least_word q l) (c.live q l).0 (live_word q l)).1

  partner-below : (q : ℕ) (l : q < length m.states) → partner q l < length n.states
  partner-below q l = run-live n (least_word q l) (c.live q l).0 (partner q l) (partner-run q l) (live_word q l)

  partner-language : (q : ℕ) (l : q < length m.states) (w : List ℕ) → accepts_from m q w ≡ accepts_from n (partner q l) w
  partner-language q l = matched (least_word q l) q (partner q l) (least_word-is q l).0 (partner-run q l)

  -- the least word of the state is the least that leads to its partner
  partner-least : (q : ℕ) (l : q < length m.states) → IsLeastWord (Reaches n (partner q l)) (least_word q l)
  partner-least q l = (partner-run q l, λ v reaches before. (least_word-is q l).1 v (back v reaches) before)
    where
      back : (v : List ℕ) → Reaches n (partner q l) v → Reaches m q v
      back v reaches =
          let w = (c.live q l).0 in
          let accepted : IsTrue (accepts m (v ++ w)) = same (v ++ w) ∙ accepts_from-append n 0 v w (partner q l) reaches ∙ sym (partner-language q l w) ∙ (c.live q l).1 in
          let run = run_from-accepted m 0 v w accepted in
          run.1 ∙ ap Some (same_state m c run.0 q (run-live m v w run.0 run.1 accepted) l (λ x. matched v run.0 (partner q l) run.1 reaches x ∙ sym (partner-language q l x)))

  partner-apart : (p q : ℕ) (h : p < length m.states) (l : q < length m.states) → p < q → partner p h ≡ partner q l → ⊥
  partner-apart p q h l less e =
      let same_words = same_state m c p q h l (λ w. partner-language p h w ∙ ap (λ r. accepts_from n r w) e ∙ sym (partner-language q l w)) in omega arith

  -- partners of the first k states, none twice
  record HasPartners (k : ℕ) : Type 0 where
    partners : List ℕ
    count : length partners ≡ k
    distinct : IsDistinct nat_eq partners
    each : (r : ℕ) → list_any (nat_eq r) partners ≡ true → (q : ℕ) × (l : q < length m.states) × (q < k) × (r ≡ partner q l)

  all_differ : (x : ℕ) (xs : List ℕ) → ((y : ℕ) → list_any (nat_eq y) xs ≡ true → x ≡ y → ⊥) → AllByRecursion (λ y. nat_eq x y ≡ false) xs
  all_differ x [] h = tt
  all_differ x (y ∷ ys) h = (ne_eqb x y (h y (or_left (nat_eq y y) (list_any (nat_eq y) ys) (eq-eqb y y refl))), all_differ x ys (λ z k. h z (or_right (nat_eq z y) (list_any (nat_eq z) ys) k)))

  has_partners : (k : ℕ) → k ≤ length m.states → HasPartners k
  unfolding IsDistinct
  has_partners zero h = record { partners = []; count = refl; distinct = tt; each = λ r e. absurd (true≢false (sym e)) }
  has_partners (suc k) h =
      let rest = has_partners k (omega arith) in
      let l : k < length m.states = omega arith in
      record {
        partners = partner k l ∷ rest.partners;
        count = ap suc rest.count;
        distinct = (all_differ (partner k l) rest.partners (λ y among e. let j = rest.each y among in partner-apart j.0 k j.1 l j.2 (sym j.3 ∙ sym e)), rest.distinct);
        each = λ r e. elim (or_cases (nat_eq r (partner k l)) (list_any (nat_eq r) rest.partners) e) [
          | inl here ↦ (k, l, omega arith, eqb-true r (partner k l) here)
          | inr there ↦ let j = rest.each r there in (j.0, j.1, (let b = j.2 in omega arith), j.3)
        ];
      }

  pub size-least : length m.states ≤ length n.states
  size-least =
      let all = has_partners (length m.states) (omega arith) in
      let bound = length-le_from_distinct_below all.partners (length n.states) all.distinct
      (λ r among. let j = all.each r among in subst (λ x. x < length n.states) (sym j.3) (partner-below j.0 j.1)) in
      let count = all.count in omega arith

  -- where n is canonical too, partners come in the order of the states
  module _ (d : IsCanonical n) where
    partner-ordered : (p q : ℕ) (h : p < length m.states) (l : q < length m.states) → p < q → partner p h < partner q l
    partner-ordered p q h l less = elim (cases_order (partner p h) (partner q l)) [
      | inl e ↦ absurd (partner-apart p q h l less e)
      | inr (inl below) ↦ below
      | inr (inr above) ↦ absurd (is_before-asymmetric (least_word p h) (least_word q l)
          (c.breadth_first.increasing p q (least_word p h) (least_word q l) less l (least_word-is p h) (least_word-is q l))
          (d.breadth_first.increasing (partner q l) (partner p h) (least_word q l) (least_word p h) above (partner-below p h) (partner-least q l) (partner-least p h)))
    ]

    partner-above : (q : ℕ) (l : q < length m.states) → q ≤ partner q l
    partner-above zero l = omega arith
    partner-above (suc q) l = let h : q < length m.states = omega arith in let a = partner-above q h in let b = partner-ordered q (suc q) h l (omega arith) in omega arith

module _ (m n : Automaton) (c : IsCanonical m) (d : IsCanonical n) (same : SameLanguage m n) where
  -- each state is its own partner
  partner-same : (q : ℕ) (l : q < length m.states) → partner m n c same q l ≡ q
  partner-same q l =
      let back = λ (w : List ℕ). sym (same w) in
      let r = partner m n c same q l in
      let k = partner-below m n c same q l in
      let s = partner n m d back r k in
      let up = partner-above m n c same d q l in
      let down = partner-above n m d back c r k in
      let e = same_state m c s q (partner-below n m d back r k) l (λ w. sym (partner-language n m d back r k w) ∙ sym (partner-language m n c same q l w)) in
      omega arith

  state-language : (q : ℕ) → q < length m.states → (w : List ℕ) → accepts_from m q w ≡ accepts_from n q w
  state-language q l w = partner-language m n c same q l w ∙ ap (λ r. accepts_from n r w) (partner-same q l)

  same_size : length m.states ≡ length n.states
  same_size = let a = size-least m n c same in let b = size-least n m d (λ w. sym (same w)) in omega arith

  -- a letter leads from a state to the same state
  same_target : (q a : ℕ) → q < length m.states → target m q a ≡ target n q a
  same_target q a l = by (target m q a) (target n q a) refl refl
    where
      through : (x : Automaton) (o : Option ℕ) → target x q a ≡ o → (w : List ℕ) → accepts_from x q (a ∷ w) ≡ (elim o as (λ o. Bool) [ None ↦ false | Some r ↦ accepts_from x r w ])
      through x o e w = ap (λ o. elim o as (λ o. Bool) [ None ↦ false | Some r ↦ accepts_from x r w ]) e

      inside : (x : Automaton) → IsCanonical x → (r : ℕ) → target x q a ≡ Some r → r < length x.states
      inside x k r e = find_target_within (edges_of x.states q) (length x.states) a r
          (All-edges_of (λ edges. All (λ edge. edge.1 < length x.states) edges) x.states (All-nil (λ (edge : ℕ × ℕ). edge.1 < length x.states)) k.valid.targets_in_range q) e

      by : (o p : Option ℕ) → target m q a ≡ o → target n q a ≡ p → target m q a ≡ target n q a
      by None None e f = e ∙ sym f
      by None (Some s) e f =
          let w = d.live s (inside n d s f) in
          absurd (true≢false (sym (sym (through m None e w.0) ∙ state-language q l (a ∷ w.0) ∙ through n (Some s) f w.0 ∙ w.1)))
      by (Some r) None e f =
          let w = c.live r (inside m c r e) in
          absurd (true≢false (sym (sym (through n None f w.0) ∙ sym (state-language q l (a ∷ w.0)) ∙ through m (Some r) e w.0 ∙ w.1)))
      by (Some r) (Some s) e f =
          let h = inside m c r e in
          let k = inside n d s f in
          let there : r < length n.states = (let z = same_size in omega arith) in
          e ∙ ap Some (same_state n d r s there k (λ w. sym (state-language r h w) ∙ sym (through m (Some r) e w) ∙ state-language q l (a ∷ w) ∙ through n (Some s) f w)) ∙ sym f

  same_edges : (q : ℕ) → q < length m.states → edges_of m.states q ≡ edges_of n.states q
  same_edges q l = elim (edges_differ (edges_of m.states q) (edges_of n.states q) (edges_of-increasing m c.valid q) (edges_of-increasing n d.valid q)) [
    | inl e ↦ e
    | inr differ ↦ absurd (differ.1 (look_up-edges (edges_of m.states q) differ.0 ∙ same_target q differ.0 l ∙ sym (look_up-edges (edges_of n.states q) differ.0)))
  ]

-- lists of nodes are equal where their flags and edges are
pub same_nodes : (xs ys : List (Node ℕ)) → length xs ≡ length ys → ((q : ℕ) → q < length xs → is_accepting xs q ≡ is_accepting ys q)
    → ((q : ℕ) → q < length xs → edges_of xs q ≡ edges_of ys q) → xs ≡ ys
same_nodes [] [] l h k = refl
same_nodes [] (y ∷ ys) l h k = cc
same_nodes (x ∷ xs) [] l h k = cc
same_nodes (x ∷ xs) (y ∷ ys) l h k =
    let rest = same_nodes xs ys (omega arith) (λ q b. h (suc q) (omega arith)) (λ q b. k (suc q) (omega arith)) in
    let a : x.accepting ≡ y.accepting = h 0 (omega arith) in
    let b : x.edges ≡ y.edges = k 0 (omega arith) in
    λ i. record { accepting = a i; edges = b i } ∷ rest i

pub is_unique : CanonicalIsUnique
is_unique m n c d letters same =
    let nodes = same_nodes m.states n.states (same_size m n c d same) (λ q l. state-language m n c d same q l []) (same_edges m n c d same) in
    λ i. record { letters = letters i; states = nodes i }

pub is_least : CanonicalIsLeast
is_least m n c same = size-least m n c same
