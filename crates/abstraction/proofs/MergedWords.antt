-- Words of merged automata.
use Rattle.std.proofs.Common.{◌≡◌, ◌<◌, ◌↔◌, ℕ, Bool, false, List, [], ◌∷◌, Option, None, Some, Result, Ok, Err, IfOk, IsTrue, length, get_or, slice_get, refl, sym, ap, subst, ◌∙◌, arith}
use Rattle.std.proofs.lemmas.Bool.{false≢true}
use Rattle.std.proofs.lemmas.Option.{slice_get-get_or, same_Some}
use Rattle.word_automata.specs.Path.{is_accepting}
use Rattle.word_automata.specs.Automaton.{Automaton, accepts, accepts_from, target, IsValid}
use Rattle.word_automata.specs.Nondeterministic.{NondeterministicAutomaton, Accepts}
use Rattle.word_automata.proofs.ForCallers.{accepting_within, leads_within, target_within}
use Rattle.minimise.specs.Canonical.{IsCanonical}
use Rattle.safety_problem.specs.Task.{IsAutomatonOf}
use Rattle.abstraction.specs.Merging.{AreClasses, HaveEqualClasses, IsMergedFrom, IsMerged}

-- a merged automaton with a word has a state
pub merged_has_state : (R : ℕ → ℕ → Type 0) (a : Automaton) (w : List ℕ) (q : ℕ) → IsMergedFrom R a q w → 0 < length a.states
merged_has_state R a [] q (p, related, accepts) = let there = accepting_within a.states p accepts in omega arith
merged_has_state R a (letter ∷ w) q (p, related, r, leads, rest) = let there = leads_within a p letter r leads in omega arith

-- where a relation holds of states, another does, so its merged automaton has the words
module _ (a : Automaton) (valid : IsValid a) (R S : ℕ → ℕ → Type 0) (within : (p q : ℕ) → p < length a.states → q < length a.states → R p q → S p q) where
  merged_from : (w : List ℕ) (q : ℕ) → q < length a.states → IsMergedFrom R a q w → IsMergedFrom S a q w
  merged_from [] q there (p, related, accepts) = (p, within q p there (accepting_within a.states p accepts) related, accepts)
  merged_from (letter ∷ w) q there (p, related, r, leads, rest) =
      (p, within q p there (leads_within a p letter r leads) related, r, leads, merged_from w r (target_within a valid p letter r leads) rest)

  pub merged_weaker : (w : List ℕ) → IsMerged R a w → IsMerged S a w
  merged_weaker w merged = merged_from w 0 (merged_has_state R a w 0 merged) merged

-- merging by classes is merging by the relation whose classes they are
pub merged_by_classes : (a : Automaton) → IsValid a → (R : ℕ → ℕ → Type 0) (classes : List ℕ) → AreClasses R (length a.states) classes
    → (w : List ℕ) → IsMerged (HaveEqualClasses classes) a w ↔ IsMerged R a w
merged_by_classes a valid R classes are w = (
  merged_weaker a valid (HaveEqualClasses classes) R (λ p q lp lq. (are.related p q lp lq).0) w,
  merged_weaker a valid R (HaveEqualClasses classes) (λ p q lp lq. (are.related p q lp lq).1) w,
)

-- and so the automata are the same
pub automaton_by_classes : (a : Automaton) → IsValid a → (R : ℕ → ℕ → Type 0) (classes : List ℕ) → AreClasses R (length a.states) classes → (m : Automaton)
    → IsAutomatonOf a.letters (IsMerged (HaveEqualClasses classes) a) m → IsAutomatonOf a.letters (IsMerged R a) m
automaton_by_classes a valid R classes are m is = record {
  canonical = is.canonical;
  same_letters = is.same_letters;
  language = λ w. let same = merged_by_classes a valid R classes are w in (λ accepts. same.0 ((is.language w).0 accepts), λ merged. (is.language w).1 (same.1 merged));
}

-- where each state is alone in its class, merging changes nothing
abbrev after : (a : Automaton) (w : List ℕ) → Option ℕ → Bool
after a w o = elim o as (λ o. Bool) [ None ↦ false | Some r ↦ accepts_from a r w ]

alone_first : (a : Automaton) (q letter : ℕ) (w : List ℕ) → ((r : ℕ) → IsTrue (accepts_from a r w) → IsMergedFrom ◌≡◌ a r w)
    → (o : Option ℕ) → target a q letter ≡ o → IsTrue (after a w (target a q letter)) → IsMergedFrom ◌≡◌ a q (letter ∷ w)
alone_first a q letter w rest None is accepts = absurd (false≢true (sym (ap (after a w) is) ∙ accepts))
alone_first a q letter w rest (Some r) is accepts = (q, refl, r, is, rest r (sym (ap (after a w) is) ∙ accepts))

alone_from : (a : Automaton) (w : List ℕ) (q : ℕ) → IsMergedFrom ◌≡◌ a q w ↔ IsTrue (accepts_from a q w)
alone_from a [] q = (
  λ merged. subst (λ p. IsTrue (is_accepting a.states p)) (sym merged.1) merged.2,
  λ accepts. (q, refl, accepts),
)
alone_from a (letter ∷ w) q = (
  λ (p, same, r, leads, rest). ap (after a w) (subst (λ k. target a k letter ≡ Some r) (sym same) leads) ∙ (alone_from a w r).0 rest,
  λ accepts. alone_first a q letter w (λ r. (alone_from a w r).1) (target a q letter) refl accepts,
)

pub automaton_alone : (a : Automaton) → IsCanonical a → (classes : List ℕ) → length classes ≡ length a.states → ((p : ℕ) → p < length classes → get_or classes p 0 ≡ p)
    → IsAutomatonOf a.letters (IsMerged (HaveEqualClasses classes) a) a
automaton_alone a canonical classes count alone = record {
  canonical = canonical;
  same_letters = refl;
  language = λ w.
      let same = merged_by_classes a canonical.valid ◌≡◌ classes are w in
      (λ accepts. same.1 ((alone_from a w 0).1 accepts), λ merged. (alone_from a w 0).0 (same.0 merged));
}
  where
    at : (p : ℕ) → p < length a.states → slice_get classes p ≡ Some p
    at p there = slice_get-get_or classes p 0 (omega arith) ∙ ap (λ (c : ℕ). Some c) (alone p (omega arith))

    are : AreClasses ◌≡◌ (length a.states) classes
    are = record {
      count = count;
      related = λ p q lp lq. (λ e. same_Some p q (sym (at p lp) ∙ e ∙ at q lq), λ same. ap (slice_get classes) same);
    }

-- what is made canonical is the automaton of the words that the nondeterministic one accepts
pub of_canonical : {E : Type 0} (r : Result Automaton E) (letters : ℕ) (property : List ℕ → Type 0) (n : NondeterministicAutomaton) → n.letters ≡ letters
    → ((w : List ℕ) → Accepts n w ↔ property w) → IfOk r (λ c. (w : List ℕ) → IsTrue (accepts c w) ↔ Accepts n w)
    → IfOk r (λ c. c.letters ≡ n.letters) → IfOk r IsCanonical → IfOk r (IsAutomatonOf letters property)
of_canonical (Err e) letters property n over exact same count canonical = tt
of_canonical (Ok c) letters property n over exact same count canonical = record {
  canonical = canonical;
  same_letters = count ∙ over;
  language = λ w. (λ accepted. (exact w).0 ((same w).0 accepted), λ holds. (same w).1 ((exact w).1 holds));
}
