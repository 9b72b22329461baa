-- States that are added to a graph, and what an automaton accepts behind an optional letter.
use Rattle.std.proofs.Common.{◌≡◌, ℕ, zero, suc, ◌<◌, ◌≤◌, Bool, false, List, [], ◌∷◌, ◌++◌, length, Option, Some, None}
use Rattle.std.proofs.Common.{refl, sym, ◌∙◌, subst, arith, IsTrue, IfSome, true≢false}
use Rattle.std.proofs.lemmas.Option.{same_Some}
use Rattle.std.proofs.lemmas.List.{nil_from_length}
use Rattle.word_automata.specs.Path.{Node, edges_of, is_accepting, spelled_one}
use Rattle.word_automata.specs.Automaton.{Automaton, target, accepts_from, IsValid}
use Rattle.word_automata.proofs.ForCallers.{target_within}
use Rattle.image_preimage.specs.Pairs.{advance}

module _ {L : Type 0} where
  -- a state without edges at the end
  pub edges_of-push : (states : List (Node L)) (b : Bool) (i : ℕ) → edges_of (states ++ record { accepting = b; edges = [] } ∷ []) i ≡ edges_of states i
  edges_of-push [] b zero = refl
  edges_of-push [] b (suc i) = refl
  edges_of-push (x ∷ states) b zero = refl
  edges_of-push (x ∷ states) b (suc i) = edges_of-push states b i

  pub edges_of-none : (states : List (Node L)) (i : ℕ) → length states ≤ i → edges_of states i ≡ []
  edges_of-none [] i h = refl
  edges_of-none (x ∷ states) zero h = absurd (omega arith)
  edges_of-none (x ∷ states) (suc i) h = edges_of-none states i (omega arith)

  pub is_accepting-push_below : (states : List (Node L)) (b : Bool) (i : ℕ) → i < length states
      → is_accepting (states ++ record { accepting = b; edges = [] } ∷ []) i ≡ is_accepting states i
  is_accepting-push_below [] b i h = absurd (omega arith)
  is_accepting-push_below (x ∷ states) b zero h = refl
  is_accepting-push_below (x ∷ states) b (suc i) h = is_accepting-push_below states b i (omega arith)

  pub is_accepting-push_last : (states : List (Node L)) (b : Bool) (i : ℕ) → i ≡ length states
      → is_accepting (states ++ record { accepting = b; edges = [] } ∷ []) i ≡ b
  is_accepting-push_last [] b zero h = refl
  is_accepting-push_last [] b (suc i) h = absurd (omega arith)
  is_accepting-push_last (x ∷ states) b zero h = absurd (omega arith)
  is_accepting-push_last (x ∷ states) b (suc i) h = is_accepting-push_last states b i (omega arith)

module _ (a : Automaton) where
  pub follows_letter : (x : ℕ) (w : List ℕ) (q to : ℕ) → target a q x ≡ Some to → accepts_from a q (x ∷ w) ≡ accepts_from a to w
  follows_letter x w q to e = rw (e, accepts_from) refl

  pub stops_at : (x : ℕ) (w : List ℕ) (q : ℕ) → target a q x ≡ None → accepts_from a q (x ∷ w) ≡ false
  stops_at x w q e = rw (e, accepts_from) refl

  -- a word behind an optional letter is accepted where the rest is accepted behind it
  pub accepts-advance : (q to : ℕ) (letter : Option ℕ) (w : List ℕ) → advance a q letter ≡ Some to → IsTrue (accepts_from a to w)
      → IsTrue (accepts_from a q (spelled_one letter ++ w))
  accepts-advance q to None w e h = subst (λ r. IsTrue (accepts_from a r w)) (sym (same_Some q to e)) h
  accepts-advance q to (Some x) w e h = follows_letter x w q to e ∙ h

  accepts_behind : (x : ℕ) (w : List ℕ) (q : ℕ) (found : Option ℕ) → target a q x ≡ found
      → IsTrue (accepts_from a q (x ∷ w)) → (to : ℕ) × (target a q x ≡ Some to) × IsTrue (accepts_from a to w)
  accepts_behind x w q None e h = absurd (true≢false (sym h ∙ stops_at x w q e))
  accepts_behind x w q (Some to) e h = (to, e, sym (follows_letter x w q to e) ∙ h)

  pub advance-accepts : (q : ℕ) (letter : Option ℕ) (w : List ℕ) → IsTrue (accepts_from a q (spelled_one letter ++ w))
      → (to : ℕ) × (advance a q letter ≡ Some to) × IsTrue (accepts_from a to w)
  advance-accepts q None w h = (q, refl, h)
  advance-accepts q (Some x) w h = accepts_behind x w q (target a q x) refl h

-- where a letter leads is a state
pub leads_within : (a : Automaton) → IsValid a → (q letter : ℕ) (found : Option ℕ) → found ≡ target a q letter → IfSome found (λ to. to < length a.states)
leads_within a valid q letter None e = tt
leads_within a valid q letter (Some to) e = target_within a valid q letter to (sym e)

-- without a state nothing is accepted
pub accepts_nothing : (a : Automaton) (w : List ℕ) → length a.states ≡ 0 → accepts_from a 0 w ≡ false
accepts_nothing a w none =
    let empty : Automaton = record { letters = a.letters; states = [] } in
    let is : empty ≡ a = λ i. record { letters = a.letters; states = sym (nil_from_length a.states none) i } in
    subst (λ m. accepts_from m 0 w ≡ false) is (by w)
  where
    by : (w : List ℕ) → accepts_from (record { letters = a.letters; states = [] }) 0 w ≡ false
    by [] = refl
    by (x ∷ w) = refl
