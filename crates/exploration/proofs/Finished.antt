-- What the breadth-first construction has built when every state that it found has its edges.
use Rattle.std.proofs.Common.{◌≡◌, ◌≤◌, ℕ, Bool, false, List, [], ◌∷◌, Option, None, Some, length, refl, sym, ap, subst, ◌∙◌, arith, slice_get, IsTrue, ◌↔◌, true≢false}
use Rattle.std.proofs.lemmas.List.{nil_from_length}
use Rattle.std.proofs.lemmas.Option.{slice_get_within}
use Rattle.word_automata.specs.Automaton.{Automaton, target, accepts_from, accepts}
use Rattle.exploration.specs.DeterministicSystem.{look_up}
use Rattle.exploration.specs.Residuals.{StartsWith, AreResiduals}
use Rattle.exploration.specs.Numbering.{IsBreadthFirst, StandsForLanguages}
use Rattle.exploration.specs.private.Worklist.{IsPlaceOf, Explored}
use Rattle.exploration.proofs.Runs.{target-inside}
use Rattle.exploration.proofs.FirstEdges.{breadth_first}

accepts_from-empty : (letters : ℕ) (w : List ℕ) → accepts_from (record { letters = letters; states = [] }) 0 w ≡ false
accepts_from-empty letters [] = refl
accepts_from-empty letters (a ∷ w) = refl

module _ {S : Type 0} (letters : ℕ) (accepted : List ℕ → Type 0) (language : S → List ℕ → Type 0) (P : S → Type 0)
    (found : List S) (m : Automaton) (next : ℕ) (e : Explored letters accepted language P found m next []) (all : length found ≤ next) where
  step_language : (s : S) (a : ℕ) (w : List ℕ) (edges : List (ℕ × S)) → AreResiduals letters language P s edges
      → ((q : ℕ) (r : S) → slice_get found q ≡ Some r → IsTrue (accepts_from m q w) ↔ language r w)
      → (o : Option ℕ) (p : Option S) → look_up edges a ≡ p → IsPlaceOf found o p
      → IsTrue (elim o as (λ o. Bool) [ None ↦ false | Some r ↦ accepts_from m r w ]) ↔ language s (a ∷ w)
  step_language s a w edges are again None None f h = (λ t. absurd (true≢false (sym t)), λ t. absurd (are.stops a f w t))
  step_language s a w edges are again None (Some r) f h = absurd h
  step_language s a w edges are again (Some i) None f h = absurd h
  step_language s a w edges are again (Some i) (Some r) f h =
      let there = again i r h in let goes = are.goes_on a r f w in (λ t. goes.1 (there.0 t), λ t. there.1 (goes.0 t))

  language_of : (w : List ℕ) (q : ℕ) (s : S) → slice_get found q ≡ Some s → IsTrue (accepts_from m q w) ↔ language s w
  language_of [] q s h = e.accepting q s h
  language_of (a ∷ w) q s h =
      let edges = e.done q s (let l = slice_get_within found q s h in omega arith) h in
      step_language s a w edges.0 edges.1 (language_of w) (target m q a) (look_up edges.0 a) refl (edges.2 a)

  pub finished_language : (w : List ℕ) → IsTrue (accepts m w) ↔ accepted w
  finished_language w = by (slice_get found 0) refl
    where
      by : (o : Option S) → slice_get found 0 ≡ o → IsTrue (accepts m w) ↔ accepted w
      by (Some s) h =
          let there = language_of w 0 s h in
          let starts = subst (StartsWith accepted language) h e.begun w in (λ t. starts.1 (there.0 t), λ t. there.1 (starts.0 t))
      by None h =
          let none = nil_from_length m.states (e.count ∙ empty found h) in
          let rejects : accepts m w ≡ false = ap (λ states. accepts_from (record { letters = m.letters; states = states }) 0 w) none ∙ accepts_from-empty m.letters w in
          (λ t. absurd (true≢false (sym t ∙ rejects)), λ t. absurd (subst (StartsWith accepted language) h e.begun w t))
        where
          empty : (xs : List S) → slice_get xs 0 ≡ None → length xs ≡ 0
          empty [] k = refl
          empty (x ∷ xs) k = cc

  pub finished_breadth_first : IsBreadthFirst m
  finished_breadth_first =
      breadth_first m (length found) e.firsts (λ p a q h. let l = target-inside m p a q h in let c = e.count in omega arith) (sym e.count)

  pub finished_states : StandsForLanguages language P m
  finished_states = record {
    found = found;
    count = sym e.count;
    states = e.states;
    distinct = e.distinct;
    accepted = λ q s h w. language_of w q s h;
  }
