-- The classes of states by the words that lead into them are those of the automaton of pasts by the words that it accepts from them.
use Rattle.std.proofs.Common.{◌≡◌, ◌<◌, ◌≤◌, ◌↔◌, ℕ, Bool, true, false, List, Some, IsTrue, length, reverse, take, slice_get, refl, sym, ap, subst, ◌∙◌, arith}
use Rattle.std.proofs.lemmas.List.{length-reverse, length-take-le, get_or-take, reverse-reverse}
use Rattle.std.proofs.lemmas.Option.{slice_get-get_or}
use Rattle.word_automata.specs.Automaton.{Automaton, accepts_from}
use Rattle.abstraction.specs.Bounds.{up_to}
use Rattle.abstraction.specs.Merging.{AreClasses}
use Rattle.future_abstraction.specs.Futures as future
use Rattle.past_abstraction.specs.Pasts.{IsInPast, is_related}
use Rattle.past_abstraction.specs.private.PastSets.{IsPastAutomaton}

same_truth : (b c : Bool) → (IsTrue b ↔ IsTrue c) → b ≡ c
same_truth true c same = sym (same.0 refl)
same_truth false true same = same.1 refl
same_truth false false same = refl

module _ (a m : Automaton) (bound : ℕ) (past : IsPastAutomaton a bound m) where
  related_from : (p q : ℕ) → p < length a.states → q < length a.states → future.is_related (up_to bound) m p q → is_related (up_to bound) a p q
  related_from p q lp lq same w short =
      let turned : length (reverse w) ≤ bound = (let e = length-reverse w in omega arith) in
      let at_p = past.accepted p (reverse w) lp turned in
      let at_q = past.accepted q (reverse w) lq turned in
      let accepts = same (reverse w) turned in
      subst (λ v. IsInPast a v p ↔ IsInPast a v q) (reverse-reverse w)
      (λ into. at_q.0 (sym accepts ∙ at_p.1 into), λ into. at_p.0 (accepts ∙ at_q.1 into))

  related_to : (p q : ℕ) → p < length a.states → q < length a.states → is_related (up_to bound) a p q → future.is_related (up_to bound) m p q
  related_to p q lp lq same w short =
      let turned : length (reverse w) ≤ bound = (let e = length-reverse w in omega arith) in
      let at_p = past.accepted p w lp short in
      let at_q = past.accepted q w lq short in
      same_truth (accepts_from m p w) (accepts_from m q w)
      (λ accepts. at_q.1 ((same (reverse w) turned).0 (at_p.0 accepts)), λ accepts. at_p.1 ((same (reverse w) turned).1 (at_q.0 accepts)))

  pub past_classes : (classes : List ℕ) → AreClasses (future.is_related (up_to bound) m) (length m.states) classes
      → AreClasses (is_related (up_to bound) a) (length a.states) (take (length a.states) classes)
  past_classes classes are = record {
    count = length-take-le (length a.states) classes (let e = are.count in let l = past.states in omega arith);
    related = λ p q lp lq.
        let same = are.related p q (let l = past.states in omega arith) (let l = past.states in omega arith) in (
          λ e. related_from p q lp lq (same.0 (sym (place p lp) ∙ e ∙ place q lq)),
          λ related. place p lp ∙ same.1 (related_to p q lp lq related) ∙ sym (place q lq),
        );
  }
    where
      place : (p : ℕ) → p < length a.states → slice_get (take (length a.states) classes) p ≡ slice_get classes p
      place p less =
          let long : length (take (length a.states) classes) ≡ length a.states = length-take-le (length a.states) classes
          (let e = are.count in let l = past.states in omega arith) in
          slice_get-get_or (take (length a.states) classes) p 0 (omega arith) ∙ ap (λ (x : ℕ). Some x)
          (get_or-take (length a.states) classes p 0 less)
          ∙ sym (slice_get-get_or classes p 0 (let e = are.count in let l = past.states in omega arith))
