-- Edges by letters, and the states that they lead to.
use Rattle.std.proofs.Common.{◌≡◌, ◌<◌, ◌≤◌, ◌⊎◌, ℕ, zero, suc, Bool, false, List, [], ◌∷◌, Option, None, Some, length, slice_index, refl, sym, ap, ◌∙◌, inl, inr, arith, All}
use Rattle.std.proofs.lemmas.Bool.{cases_eq, cases_order}
use Rattle.std.proofs.lemmas.List.{get_or_past}
use Rattle.std.proofs.lemmas.List.Elements.{All-nil, All-weaker}
use Rattle.std.specs.List.{filter_map}
use Rattle.std.specs.Option.{option_and_then}
use Rattle.word_automata.specs.Path.{Node, edges_of}
use Rattle.word_automata.specs.Automaton.{Automaton, target, find_target, accepts_from, IsValid, HasIncreasingLetters as HasIncreasingEdges}
use Rattle.word_automata.proofs.ForCallers.{edges_of-past, All-edges_of}
pub use Rattle.word_automata.proofs.ForCallers.{is_accepting-past}
use Rattle.exploration.specs.DeterministicSystem.{DeterministicSystem, look_up, HasIncreasingLetters, IsSuccessors}
use Rattle.exploration.proofs.ForCallers.{look_up-here, look_up-there, look_up-beneath, look_up-edges, HasIncreasingLetters-edges, IsSuccessors-moved}
use Rattle.minimise.specs.Refinement.{live_class, live_edge}

-- two lists of edges by increasing letters are equal, or lead to different states under some letter
pub edges_differ : (es fs : List (ℕ × ℕ)) → HasIncreasingLetters es → HasIncreasingLetters fs → (es ≡ fs) ⊎ ((a : ℕ) × (look_up es a ≡ look_up fs a → ⊥))
edges_differ [] [] h k = inl refl
edges_differ [] (f ∷ fs) h k = inr (f.0, λ e. let s = look_up-here f fs f.0 refl in cc)
edges_differ (e ∷ es) [] h k = inr (e.0, λ x. let s = look_up-here e es e.0 refl in cc)
edges_differ (e ∷ es) (f ∷ fs) h k = by (cases_order e.0 f.0) (edges_differ es fs h.1 k.1)
  where
    first : look_up (e ∷ es) e.0 ≡ Some e.1
    first = look_up-here e es e.0 refl

    less : (x y : ℕ × ℕ) (ys : List (ℕ × ℕ)) → x.0 < y.0 → All (λ later. y.0 < later.0) ys → look_up (y ∷ ys) x.0 ≡ None
    less x y ys l later =
        look_up-there y ys x.0 (λ e. absurd (omega arith))
        ∙ look_up-beneath ys x.0 (All-weaker (λ (z : ℕ × ℕ). y.0 < z.0) (λ (z : ℕ × ℕ). x.0 < z.0) (λ z m. omega arith) ys later)

    again : e.0 ≡ f.0 → e.1 ≡ f.1 → (es ≡ fs) ⊎ ((a : ℕ) × (look_up es a ≡ look_up fs a → ⊥)) → ((e ∷ es) ≡ (f ∷ fs)) ⊎ ((a : ℕ) × (look_up (e ∷ es) a ≡ look_up (f ∷ fs) a → ⊥))
    again p q (inl same) = inl (λ i. (p i, q i) ∷ same i)
    again p q (inr (a, ne)) = inr (
      a,
      λ both. elim (cases_eq e.0 a) [
        | inl here ↦ ne (look_up-beneath es a (All-weaker (λ (z : ℕ × ℕ). e.0 < z.0) (λ (z : ℕ × ℕ). a < z.0) (λ z m. omega arith) es h.0)
            ∙ sym (look_up-beneath fs a (All-weaker (λ (z : ℕ × ℕ). f.0 < z.0) (λ (z : ℕ × ℕ). a < z.0) (λ z m. omega arith) fs k.0)))
        | inr there ↦ ne (sym (look_up-there e es a there) ∙ both ∙ look_up-there f fs a (λ x. there (p ∙ x)))
      ],
    )

    by : (e.0 ≡ f.0) ⊎ ((e.0 < f.0) ⊎ (f.0 < e.0)) → (es ≡ fs) ⊎ ((a : ℕ) × (look_up es a ≡ look_up fs a → ⊥)) → ((e ∷ es) ≡ (f ∷ fs)) ⊎ ((a : ℕ) × (look_up (e ∷ es) a ≡ look_up (f ∷ fs) a → ⊥))
    by (inl same) rest = elim (cases_eq e.1 f.1) [
      | inl q ↦ again same q rest
      | inr ne ↦ inr (e.0, λ both. ne (let x = first in let s = look_up-here f fs e.0 (sym same) in cc))
    ]
    by (inr (inl l)) rest = inr (e.0, λ both. let x = first in let s = less e f fs l k.0 in cc)
    by (inr (inr l)) rest = inr (f.0, λ both. let s = less f e es l h.0 in let t = look_up-here f fs f.0 refl in cc)

-- the edges of a state are by increasing letters
pub edges_of-increasing : (m : Automaton) → IsValid m → (q : ℕ) → HasIncreasingLetters (edges_of m.states q)
edges_of-increasing m valid q = HasIncreasingLetters-edges (edges_of m.states q) (All-edges_of HasIncreasingEdges m.states tt valid.ordered q)

pub live_edges_past : (classes : List ℕ) (states : List (Node ℕ)) (q : ℕ) → length states ≤ q → filter_map (live_edge classes) (edges_of states q) ≡ []
live_edges_past classes states q l = ap (filter_map (live_edge classes)) (edges_of-past states q l)

module _ (m : Automaton) where
  -- no word is accepted from a number that is no state
  pub accepts_from-past : (q : ℕ) (w : List ℕ) → length m.states ≤ q → accepts_from m q w ≡ false
  accepts_from-past q [] l = is_accepting-past m.states q l
  accepts_from-past q (a ∷ w) l =
      ap (λ o. elim o as (λ o. Bool) [ None ↦ false | Some r ↦ accepts_from m r w ]) (ap (λ edges. find_target edges a) (edges_of-past m.states q l))

  -- where the letter leads from the state, or else a number that is no state
  abbrev pub next_state : ℕ → ℕ → ℕ
  next_state q a = elim (target m q a) as (λ o. ℕ) [ None ↦ length m.states | Some r ↦ r ]

  pub accepts_from-next : (q a : ℕ) (w : List ℕ) → accepts_from m q (a ∷ w) ≡ accepts_from m (next_state q a) w
  accepts_from-next q a w = by (target m q a)
    where
      by : (o : Option ℕ) → (elim o as (λ o. Bool) [ None ↦ false | Some r ↦ accepts_from m r w ]) ≡ accepts_from m (elim o as (λ o. ℕ) [ None ↦ length m.states | Some r ↦ r ]) w
      by None = sym (accepts_from-past (length m.states) w (omega arith))
      by (Some r) = refl

  module _ (valid : IsValid m) (classes : List ℕ) (count : length classes ≡ length m.states) where
    pub class-past : (q : ℕ) → length m.states ≤ q → slice_index classes q ≡ 0
    class-past q l = get_or_past classes q 0 (omega arith)

    -- the system of all states whose letters lead to classes
    classes_system : DeterministicSystem ℕ
    classes_system = record { letters = m.letters; start = None; step = λ q a. live_class (slice_index classes (next_state q a)); accepting = λ q. false }

    -- the edges that a signature has are its successors
    live_successors : (q : ℕ) → IsSuccessors classes_system (λ c. Unit {0}) q (filter_map (live_edge classes) (edges_of m.states q))
    unfolding classes_system
    live_successors q =
        IsSuccessors-moved (λ letter r. live_class (slice_index classes r)) classes_system (λ c. Unit {0}) q (edges_of m.states q) (edges_of-increasing m valid q)
        (All-edges_of (λ edges. All (λ edge. edge.0 < m.letters) edges) m.states (All-nil (λ (edge : ℕ × ℕ). edge.0 < m.letters)) valid.letters_in_range q)
        (λ k d l r e. tt) (λ a. ap (option_and_then (λ r. live_class (slice_index classes r))) (look_up-edges (edges_of m.states q) a) ∙ by a (target m q a))
      where
        by : (a : ℕ) (o : Option ℕ) → option_and_then (λ r. live_class (slice_index classes r)) o ≡ live_class (slice_index classes (elim o as (λ o. ℕ) [ None ↦ length m.states | Some r ↦ r ]))
        by a None = sym (ap live_class (class-past (length m.states) (omega arith)))
        by a (Some r) = refl

    pub look_up-live_edges : (q a : ℕ) → look_up (filter_map (live_edge classes) (edges_of m.states q)) a ≡ live_class (slice_index classes (next_state q a))
    unfolding classes_system
    look_up-live_edges q a = (live_successors q).steps a

    pub live_edges-increasing : (q : ℕ) → HasIncreasingLetters (filter_map (live_edge classes) (edges_of m.states q))
    live_edges-increasing q = (live_successors q).increasing

pub live_class-same : (c d : ℕ) → live_class c ≡ live_class d → c ≡ d
live_class-same zero zero h = refl
live_class-same zero (suc d) h = cc
live_class-same (suc c) zero h = cc
live_class-same (suc c) (suc d) h = cc
