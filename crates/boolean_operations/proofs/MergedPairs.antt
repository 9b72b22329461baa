-- The successors of a product, which are made letter by letter.
use Rattle.std.proofs.Common.{◌≡◌, ◌+◌, ◌<◌, ◌≤◌, ◌⊎◌, ℕ, List, [], ◌∷◌, ◌++◌, Option, None, Some, All, length, sym, ap, subst, ◌∙◌, inl, inr, arith}
use Rattle.std.proofs.lemmas.Bool.{cases_eq, cases_lt}
use Rattle.std.proofs.lemmas.Option.{slice_get_within}
use Rattle.std.proofs.lemmas.List.Elements.{All-nil, All-push, All-weaker, All-contains}
use Rattle.word_automata.specs.Automaton.{Automaton, find_target, IsValid}
use Rattle.exploration.specs.DeterministicSystem.{look_up, IsSuccessors}
use Rattle.exploration.proofs.ForCallers.{look_up-above, look_up-push_same, look_up-push_other}
use Rattle.boolean_operations.specs.OptionalStates.{follow, edges_at, IsStateOrNone}
use Rattle.boolean_operations.specs.private.Products.{IsPairOfStates, pair_of, pair_system}
use Rattle.boolean_operations.specs.private.MergedEdges.{IsPassed, IsTaken, IsLeastLetter, IsMerging}
use Rattle.boolean_operations.specs.declared.products.Operation.{Operation}
use Rattle.boolean_operations.proofs.OptionalStates.{follow-within, follow-edges, edges_at-letters}
use Rattle.boolean_operations.proofs.Letters.{increasing_push}
use Rattle.boolean_operations.proofs.ProductLanguages.{no_pair, pair_states}
use Rattle.boolean_operations.proofs.EdgeTargets.{no_target, passed_later}
use Rattle.boolean_operations.proofs.SearchCalls.{contains_at}

module _ {operation : Operation} {m n : Automaton} (same_letters : m.letters ≡ n.letters) (m_valid : IsValid m) (n_valid : IsValid n) (p q : Option ℕ) where
  -- before any edge
  pub merging_nothing : IsMerging operation m n (edges_at m p) (edges_at n q) 0 0 []
  merging_nothing = record {
    bound = 0;
    left_passed = record { below = λ k edge l at. absurd (omega arith); above = λ k edge l at. omega arith };
    right_passed = record { below = λ k edge l at. absurd (omega arith); above = λ k edge l at. omega arith };
    merged = record {
      increasing = tt;
      below = All-nil (λ (pair : ℕ × (Option ℕ × Option ℕ)). pair.0 < 0);
      in_range = All-nil (λ (pair : ℕ × (Option ℕ × Option ℕ)). pair.0 < m.letters);
      states = All-nil (λ (pair : ℕ × (Option ℕ × Option ℕ)). IsPairOfStates m n pair.1);
      steps = λ a l. absurd (omega arith);
    };
  }

  module _ {i j : ℕ} {pairs : List (ℕ × (Option ℕ × Option ℕ))} (e : IsMerging operation m n (edges_at m p) (edges_at n q) i j pairs) where
    -- one more letter
    module _ {letter : ℕ} (least : IsLeastLetter (edges_at m p) i (edges_at n q) j letter) where
      reached : e.bound ≤ letter
      reached = elim least.one [
        | inl here ↦ let l = e.left_passed.above i here.0 (omega arith) here.1 in let s = here.2 in omega arith
        | inr here ↦ let l = e.right_passed.above j here.0 (omega arith) here.1 in let s = here.2 in omega arith
      ]

      pub left_passed : IsPassed (edges_at m p) i letter
      left_passed = passed_later (edges_at m p) i e.bound letter e.left_passed reached least.left_above

      pub right_passed : IsPassed (edges_at n q) j letter
      right_passed = passed_later (edges_at n q) j e.bound letter e.right_passed reached least.right_above

      in_alphabet : letter < m.letters
      in_alphabet = elim least.one [
        | inl here ↦
            let l = All-contains (λ (edge : ℕ × ℕ). edge.0 < m.letters) (edges_at m p) here.0 (edges_at-letters m m_valid p) (contains_at (edges_at m p) here.0 i here.1) in
            let s = here.2 in omega arith
        | inr here ↦
            let l = All-contains (λ (edge : ℕ × ℕ). edge.0 < n.letters) (edges_at n q) here.0 (edges_at-letters n n_valid q) (contains_at (edges_at n q) here.0 j here.1) in
            let s = here.2 in omega (arith, same_letters, l, s)
      ]

      -- letters between lead nowhere
      nowhere : (a : ℕ) → e.bound ≤ a → a < letter → pair_of operation (find_target (edges_at m p) a) (find_target (edges_at n q) a) ≡ None
      nowhere a le l =
          ap (λ s. pair_of operation s (find_target (edges_at n q) a))
          (no_target (edges_at m p) i e.bound a e.left_passed le (λ k edge from at. let u = least.left_above k edge from at in omega arith))
          ∙ ap (λ s. pair_of operation None s)
          (no_target (edges_at n q) j e.bound a e.right_passed le (λ k edge from at. let u = least.right_above k edge from at in omega arith))
          ∙ no_pair operation m n operation

      absent : (a : ℕ) → e.bound ≤ a → look_up pairs a ≡ None
      absent a le = look_up-above pairs a
          (All-weaker (λ (pair : ℕ × (Option ℕ × Option ℕ)). pair.0 < e.bound) (λ (pair : ℕ × (Option ℕ × Option ℕ)). pair.0 < a) (λ pair l. omega arith) pairs e.merged.below)

      steps_before : (a : ℕ) → a < letter → look_up pairs a ≡ pair_of operation (find_target (edges_at m p) a) (find_target (edges_at n q) a)
      steps_before a l = elim (cases_lt a e.bound) [
        | inl before ↦ e.merged.steps a before
        | inr after ↦ absent a (omega arith) ∙ sym (nowhere a (omega arith) l)
      ]

      module _ {s t : Option ℕ} {i_next j_next : ℕ} (left : IsTaken (edges_at m p) i letter s i_next) (right : IsTaken (edges_at n q) j letter t j_next) where
        made : pair_of operation s t ≡ pair_of operation (find_target (edges_at m p) letter) (find_target (edges_at n q) letter)
        made = ap (λ x. pair_of operation x t) left.target_is ∙ ap (pair_of operation (find_target (edges_at m p) letter)) right.target_is

        -- that becomes no pair
        pub merging_none : pair_of operation s t ≡ None → IsMerging operation m n (edges_at m p) (edges_at n q) i_next j_next pairs
        merging_none none = record {
          bound = letter + 1;
          left_passed = left.passed;
          right_passed = right.passed;
          merged = record {
            increasing = e.merged.increasing;
            below = All-weaker (λ (pair : ℕ × (Option ℕ × Option ℕ)). pair.0 < e.bound) (λ (pair : ℕ × (Option ℕ × Option ℕ)). pair.0 < letter + 1)
                (λ pair l. (let r = reached in omega arith)) pairs e.merged.below;
            in_range = e.merged.in_range;
            states = e.merged.states;
            steps = λ a l. by a l (cases_eq a letter);
          };
        }
          where
            by : (a : ℕ) → a < letter + 1 → (a ≡ letter) ⊎ (a ≡ letter → ⊥) → look_up pairs a ≡ pair_of operation (find_target (edges_at m p) a) (find_target (edges_at n q) a)
            by a l (inr other) = steps_before a (omega arith)
            by a l (inl same) =
                subst (λ b. look_up pairs b ≡ pair_of operation (find_target (edges_at m p) b) (find_target (edges_at n q) b)) (sym same)
                (absent letter reached ∙ sym none ∙ made)

        -- or a pair
        pub merging_pair : (pair : Option ℕ × Option ℕ) → pair_of operation s t ≡ Some pair → IsMerging operation m n (edges_at m p) (edges_at n q) i_next j_next (pairs ++ (letter, pair) ∷ [])
        merging_pair pair some = record {
          bound = letter + 1;
          left_passed = left.passed;
          right_passed = right.passed;
          merged = record {
            increasing = increasing_push pairs (letter, pair) e.merged.increasing below_letter;
            below = All-push (λ (x : ℕ × (Option ℕ × Option ℕ)). x.0 < letter + 1) pairs (letter, pair)
                (All-weaker (λ (x : ℕ × (Option ℕ × Option ℕ)). x.0 < letter) (λ (x : ℕ × (Option ℕ × Option ℕ)). x.0 < letter + 1) (λ x l. omega arith) pairs below_letter) (omega arith);
            in_range = All-push (λ (x : ℕ × (Option ℕ × Option ℕ)). x.0 < m.letters) pairs (letter, pair) e.merged.in_range in_alphabet;
            states = All-push (λ (x : ℕ × (Option ℕ × Option ℕ)). IsPairOfStates m n x.1) pairs (letter, pair) e.merged.states (m_valid, n_valid, both.0, both.1);
            steps = λ a l. by a l (cases_eq letter a);
          };
        }
          where
            below_letter : All (λ (x : ℕ × (Option ℕ × Option ℕ)). x.0 < letter) pairs
            below_letter = All-weaker (λ (x : ℕ × (Option ℕ × Option ℕ)). x.0 < e.bound) (λ (x : ℕ × (Option ℕ × Option ℕ)). x.0 < letter) (λ x l. (let r = reached in omega arith)) pairs
                e.merged.below

            both : IsStateOrNone m pair.0 × IsStateOrNone n pair.1
            both = pair_states operation m n s t pair some
                (subst (IsStateOrNone m) (follow-edges m p letter ∙ sym left.target_is) (follow-within m m_valid p letter))
                (subst (IsStateOrNone n) (follow-edges n q letter ∙ sym right.target_is) (follow-within n n_valid q letter))

            by : (a : ℕ) → a < letter + 1 → (letter ≡ a) ⊎ (letter ≡ a → ⊥) → look_up (pairs ++ (letter, pair) ∷ []) a ≡ pair_of operation (find_target (edges_at m p) a) (find_target (edges_at n q) a)
            by a l (inr other) = look_up-push_other pairs (letter, pair) a other ∙ steps_before a (omega arith)
            by a l (inl same) =
                subst (λ b. look_up (pairs ++ (letter, pair) ∷ []) b ≡ pair_of operation (find_target (edges_at m p) b) (find_target (edges_at n q) b)) same
                (look_up-push_same pairs (letter, pair) (absent letter reached) ∙ sym some ∙ made)

    -- all edges were merged
    pub merged_all : length (edges_at m p) ≤ i → length (edges_at n q) ≤ j → IsSuccessors (pair_system operation m n) (IsPairOfStates m n) (p, q) pairs
    merged_all left_all right_all = record {
      increasing = e.merged.increasing;
      letters_in_range = e.merged.in_range;
      states = e.merged.states;
      steps = λ a. by a (cases_lt a e.bound)
          ∙ ap (λ s. pair_of operation s (find_target (edges_at n q) a)) (sym (follow-edges m p a))
          ∙ ap (pair_of operation (follow m p a)) (sym (follow-edges n q a));
    }
      where
        by : (a : ℕ) → (a < e.bound) ⊎ (e.bound ≤ a) → look_up pairs a ≡ pair_of operation (find_target (edges_at m p) a) (find_target (edges_at n q) a)
        by a (inl before) = e.merged.steps a before
        by a (inr after) =
            look_up-above pairs a (All-weaker (λ (pair : ℕ × (Option ℕ × Option ℕ)). pair.0 < e.bound) (λ (pair : ℕ × (Option ℕ × Option ℕ)). pair.0 < a) (λ pair l. omega arith) pairs e.merged.below)
            ∙ sym (ap (λ s. pair_of operation s (find_target (edges_at n q) a))
            (no_target (edges_at m p) i e.bound a e.left_passed (omega arith) (λ k edge from at. absurd (let l = slice_get_within (edges_at m p) k edge at in omega arith)))
            ∙ ap (λ s. pair_of operation None s)
            (no_target (edges_at n q) j e.bound a e.right_passed (omega arith) (λ k edge from at. absurd (let l = slice_get_within (edges_at n q) k edge at in omega arith)))
            ∙ no_pair operation m n operation)
