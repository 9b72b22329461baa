-- A complement with an edge for each letter at each state, and how many states a canonical complement has.
use Rattle.std.proofs.Common.{◌≡◌, ◌<◌, ◌≤◌, ◌&&◌, ℕ, zero, suc, Bool, true, false, not, nat_lt, List, [], ◌∷◌, Option, None, Some, length, slice_get, refl, sym, ap, ◌∙◌, arith, zero-le}
use Rattle.std.proofs.lemmas.Bool.Decides.{nat_tests}
use Rattle.word_automata.specs.Path.{Node, is_accepting}
use Rattle.word_automata.specs.Automaton.{Automaton, target, find_target, accepts, accepts_from, IsValid}
use Rattle.word_automata.proofs.ForCallers.{target_within}
use Rattle.exploration.proofs.ForCallers.{look_up-edges}
use Rattle.boolean_operations.specs.Complements.{are_letters}
use Rattle.boolean_operations.proofs.ForCallers.{valued, look_up-valued, look_up-valued_above}
use Rattle.minimise.proofs.ForCallers.{next_state, accepts_from-next}

-- so many nodes, by their numbers
abbrev nodes : (ℕ → Node ℕ) → ℕ → List (Node ℕ)
nodes f zero = []
nodes f (suc n) = f 0 ∷ nodes (λ k. f (suc k)) n

length-nodes : (f : ℕ → Node ℕ) (n : ℕ) → length (nodes f n) ≡ n
length-nodes f zero = refl
length-nodes f (suc n) = let rest = length-nodes (λ k. f (suc k)) n in omega (arith, rest)

slice_get-nodes : (f : ℕ → Node ℕ) (n q : ℕ) → q < n → slice_get (nodes f n) q ≡ Some (f q)
slice_get-nodes f zero q below = absurd (omega (arith, below))
slice_get-nodes f (suc n) zero below = refl
slice_get-nodes f (suc n) (suc q) below = slice_get-nodes (λ k. f (suc k)) n q (omega (arith, below))

module _ (m : Automaton) where
  -- what a state accepts turned round, with an edge for each letter: where there was none it leads to one more state
  abbrev complete_node : ℕ → Node ℕ
  complete_node q = record { accepting = not (is_accepting m.states q); edges = valued (next_state m q) m.letters }

  abbrev pub complete : Automaton
  complete = record { letters = m.letters; states = nodes complete_node (suc (length m.states)) }

  pub length-complete : length complete.states ≡ suc (length m.states)
  length-complete = length-nodes complete_node (suc (length m.states))

  next_state-within : IsValid m → (q a : ℕ) → next_state m q a ≤ length m.states
  next_state-within valid q a = by (target m q a) refl
    where
      by : (o : Option ℕ) → target m q a ≡ o → (elim o as (λ o. ℕ) [ None ↦ length m.states | Some r ↦ r ]) ≤ length m.states
      by None found = omega arith
      by (Some r) found = let within = target_within m valid q a r found in omega (arith, within)

  target-complete : (q a : ℕ) → q ≤ length m.states → target complete q a ≡ find_target (valued (next_state m q) m.letters) a
  target-complete q a within =
      ap (λ o. find_target (elim o as (λ o. List (ℕ × ℕ)) [ None ↦ [] | Some node ↦ node.edges ]) a)
      (slice_get-nodes complete_node (suc (length m.states)) q (omega (arith, within)))

  -- it accepts from a state the words over the letters that are refused from there
  accepts_from-complete : IsValid m → (w : List ℕ) (q : ℕ) → q ≤ length m.states
      → accepts_from complete q w ≡ (are_letters m.letters w && not (accepts_from m q w))
  accepts_from-complete valid [] q within =
      ap (λ o. elim o as (λ o. Bool) [ None ↦ false | Some node ↦ node.accepting ])
      (slice_get-nodes complete_node (suc (length m.states)) q (omega (arith, within)))
  accepts_from-complete valid (a ∷ w) q within = by (nat_lt a m.letters) refl (accepts_from-complete valid w (next_state m q a) (next_state-within valid q a))
    where
      to : (o : Option ℕ) → target complete q a ≡ o → accepts_from complete q (a ∷ w) ≡ (elim o as (λ o. Bool) [ None ↦ false | Some r ↦ accepts_from complete r w ])
      to o is = ap (λ o. elim o as (λ o. Bool) [ None ↦ false | Some r ↦ accepts_from complete r w ]) is

      found : target complete q a ≡ find_target (valued (next_state m q) m.letters) a
      found = target-complete q a within

      by : (b : Bool) → nat_lt a m.letters ≡ b
          → accepts_from complete (next_state m q a) w ≡ (are_letters m.letters w && not (accepts_from m (next_state m q a) w))
          → accepts_from complete q (a ∷ w) ≡ (are_letters m.letters (a ∷ w) && not (accepts_from m q (a ∷ w)))
      by true below rest =
          to (Some (next_state m q a)) (found ∙ sym (look_up-edges (valued (next_state m q) m.letters) a) ∙ look_up-valued (next_state m q) m.letters a (grind (arith, nat_tests, below)))
          ∙ rest
          ∙ ap (λ (b : Bool). are_letters m.letters w && not b) (sym (accepts_from-next m q a w))
          ∙ ap (λ (b : Bool). (b && are_letters m.letters w) && not (accepts_from m q (a ∷ w))) (sym below)
      by false above rest =
          to None (found ∙ sym (look_up-edges (valued (next_state m q) m.letters) a) ∙ look_up-valued_above (next_state m q) m.letters a (grind (arith, nat_tests, above)))
          ∙ ap (λ (b : Bool). (b && are_letters m.letters w) && not (accepts_from m q (a ∷ w))) (sym above)

  pub accepts-complete : IsValid m → (w : List ℕ) → accepts complete w ≡ (are_letters m.letters w && not (accepts m w))
  accepts-complete valid w = accepts_from-complete valid w 0 zero-le
