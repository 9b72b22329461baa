-- Automata with the same states and edges are the same.
use Rattle.std.proofs.Common.{◌≡◌, ◌≢◌, ℕ, suc, ◌<◌, Bool, true, false, List, [], ◌∷◌, Option, Some, None, All, IsTrue, length, eqb}
use Rattle.std.proofs.Common.{◌↔◌, refl, sym, ◌∙◌, arith, inl, inr}
use Rattle.std.proofs.lemmas.Bool.{cases_eq, cases_order, cond-true, cond-false, eq-eqb, ne_eqb}
use Rattle.std.proofs.lemmas.List.Elements.{All-head, All-tail, All-weaker}
use Rattle.std.proofs.lemmas.Option.{none-some, same_Some}
use Rattle.word_automata.specs.Path.{Node, edges_of, is_accepting}
use Rattle.word_automata.specs.Automaton.{Automaton, target, find_target, HasIncreasingLetters}
use Rattle.word_automata.proofs.ForCallers.{ordered_edges}
use Rattle.certificate.specs.AutomatonLines.{Line, IsAutomatonOf}

-- where the letter of the first edge leads, and other letters
pub first_target : (edge : ℕ × ℕ) (edges : List (ℕ × ℕ)) (a : ℕ) → edge.0 ≡ a → find_target (edge ∷ edges) a ≡ Some edge.1
first_target edge edges a e = cond-true (eqb edge.0 a) (Some edge.1) (find_target edges a) (eq-eqb edge.0 a e)

pub later_target : (edge : ℕ × ℕ) (edges : List (ℕ × ℕ)) (a : ℕ) → edge.0 ≢ a → find_target (edge ∷ edges) a ≡ find_target edges a
later_target edge edges a differ = cond-false (eqb edge.0 a) (Some edge.1) (find_target edges a) (ne_eqb edge.0 a differ)

-- a letter below those of all edges leads nowhere
pub below_target : (edges : List (ℕ × ℕ)) (a : ℕ) → All (λ later. a < later.0) edges → find_target edges a ≡ None
below_target [] a below = refl
below_target (edge ∷ edges) a below =
    let above : a < edge.0 = All-head (λ (later : ℕ × ℕ). a < later.0) edge edges below in
    later_target edge edges a (λ e. absurd (omega (arith, e, above)))
    ∙ below_target edges a (All-tail (λ (later : ℕ × ℕ). a < later.0) edge edges below)

-- edges by increasing letters are determined by where letters lead
pub same_edges : (xs ys : List (ℕ × ℕ)) → HasIncreasingLetters xs → HasIncreasingLetters ys
    → ((a : ℕ) → find_target xs a ≡ find_target ys a) → xs ≡ ys
same_edges [] [] h k same = refl
same_edges [] (y ∷ ys) h k same = absurd (none-some y.1 (same y.0 ∙ first_target y ys y.0 refl))
same_edges (x ∷ xs) [] h k same = absurd (none-some x.1 (sym (same x.0) ∙ first_target x xs x.0 refl))
same_edges (x ∷ xs) (y ∷ ys) h k same =
    let letter : x.0 ≡ y.0 = first_letter in
    let to : x.1 ≡ y.1 = same_Some x.1 y.1 (sym (first_target x xs x.0 refl) ∙ same x.0 ∙ first_target y ys x.0 (sym letter)) in
    let rest = same_edges xs ys h.1 k.1 (λ a. elim (cases_eq x.0 a) [
      | inl here ↦
          below_target xs a (All-weaker (λ (z : ℕ × ℕ). x.0 < z.0) (λ (z : ℕ × ℕ). a < z.0) (λ z m. omega arith) xs h.0)
          ∙ sym (below_target ys a (All-weaker (λ (z : ℕ × ℕ). y.0 < z.0) (λ (z : ℕ × ℕ). a < z.0) (λ z m. omega arith) ys k.0))
      | inr there ↦ sym (later_target x xs a there) ∙ same a ∙ later_target y ys a (λ e. there (letter ∙ e))
    ]) in
    λ i. (letter i, to i) ∷ rest i
  where
    absent : (e f : ℕ × ℕ) (fs : List (ℕ × ℕ)) → e.0 < f.0 → All (λ later. f.0 < later.0) fs → find_target (f ∷ fs) e.0 ≡ Some e.1 → ⊥
    absent e f fs less later found =
        none-some e.1
        (sym (later_target f fs e.0 (λ same. absurd (omega (arith, same, less)))
        ∙ below_target fs e.0 (All-weaker (λ (z : ℕ × ℕ). f.0 < z.0) (λ (z : ℕ × ℕ). e.0 < z.0) (λ z m. omega arith) fs later))
        ∙ found)

    first_letter : x.0 ≡ y.0
    first_letter = elim (cases_order x.0 y.0) [
      | inl e ↦ e
      | inr order ↦ elim order [
        | inl less ↦ absurd (absent x y ys less k.0 (sym (same x.0) ∙ first_target x xs x.0 refl))
        | inr more ↦ absurd (absent y x xs more h.0 (same y.0 ∙ first_target y ys y.0 refl))
      ]
    ]

-- states with the same acceptance and edges are the same
same_states : (xs ys : List (Node ℕ)) → length xs ≡ length ys → ((q : ℕ) → is_accepting xs q ≡ is_accepting ys q)
    → ((q : ℕ) → edges_of xs q ≡ edges_of ys q) → xs ≡ ys
same_states [] [] l h k = refl
same_states [] (y ∷ ys) l h k = cc
same_states (x ∷ xs) [] l h k = cc
same_states (x ∷ xs) (y ∷ ys) l h k =
    let rest = same_states xs ys (omega arith) (λ q. h (suc q)) (λ q. k (suc q)) in
    let accepting : x.accepting ≡ y.accepting = h 0 in
    let edges : x.edges ≡ y.edges = k 0 in
    λ i. record { accepting = accepting i; edges = edges i } ∷ rest i

-- tests that hold together are the same
same_test : (a b : Bool) (P : Type 0) → IsTrue a ↔ P → IsTrue b ↔ P → a ≡ b
same_test true true P h k = refl
same_test true false P h k = sym (k.1 (h.0 refl))
same_test false true P h k = h.1 (k.0 refl)
same_test false false P h k = refl

-- targets that are the same wherever there is one
same_target : (o u : Option ℕ) → ((r : ℕ) → o ≡ Some r → u ≡ Some r) → ((r : ℕ) → u ≡ Some r → o ≡ Some r) → o ≡ u
same_target None None h k = refl
same_target None (Some r) h k = k r refl
same_target (Some r) u h k = sym (h r refl)

-- lines have one automaton
pub automaton_unique : (size count : ℕ) (lines : List Line) (m n : Automaton) → IsAutomatonOf size count lines m
    → IsAutomatonOf size count lines n → m ≡ n
automaton_unique size count lines m n h k =
    let letters : m.letters ≡ n.letters = h.letters_are ∙ sym k.letters_are in
    let states : m.states ≡ n.states = same_states m.states n.states (h.states_are ∙ sym k.states_are)
    (λ q. same_test (is_accepting m.states q) (is_accepting n.states q) _ (h.final_lines q) (k.final_lines q))
    (λ q. same_edges (edges_of m.states q) (edges_of n.states q) (ordered_edges m h.valid q) (ordered_edges n k.valid q)
    (λ a. same_target (target m q a) (target n q a)
    (λ r e. (k.edge_lines q a r).1 ((h.edge_lines q a r).0 e)) (λ r e. (h.edge_lines q a r).1 ((k.edge_lines q a r).0 e)))) in
    λ i. record { letters = letters i; states = states i }
