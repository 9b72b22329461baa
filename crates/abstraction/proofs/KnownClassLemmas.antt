-- Classes that are known before a refinement.
use Rattle.std.proofs.Common.{◌≡◌, ◌<◌, ℕ, List, Some, length, get_or, slice_get, sym, ap, subst, ◌∙◌, arith}
use Rattle.std.proofs.lemmas.Option.{slice_get-get_or, same_Some}
use Rattle.word_automata.specs.Automaton.{Automaton, IsValid}
use Rattle.safety_problem.specs.Task.{IsAutomatonOf}
use Rattle.abstraction.specs.Merging.{Key, AreClasses, HaveEqualClasses, IsMerged}
use Rattle.abstraction.specs.KnownClasses.{AreClassesBefore, IsMergedBy}
use Rattle.abstraction.proofs.MergedWords.{automaton_by_classes}

pub merged_by : (R : ℕ → ℕ → Type 0) (a : Automaton) → IsValid a → (classes : List ℕ) (m : Automaton) → AreClasses R (length a.states) classes
    → IsAutomatonOf a.letters (IsMerged (HaveEqualClasses classes) a) m → IsMergedBy R a classes m
merged_by R a valid classes m are is = record { are = are; by_classes = is; related = automaton_by_classes a valid R classes are m is }

-- where each state is alone in its class, no later key relates states
single : (classes : List ℕ) → ((p : ℕ) → p < length classes → get_or classes p 0 ≡ p) → (p q : ℕ) → p < length classes → q < length classes
    → slice_get classes p ≡ slice_get classes q → p ≡ q
single classes alone p q lp lq e = same_Some p q (sym (at p lp) ∙ e ∙ at q lq)
  where
    at : (p : ℕ) → p < length classes → slice_get classes p ≡ Some p
    at p there = slice_get-get_or classes p 0 there ∙ ap (λ (c : ℕ). Some c) (alone p there)

pub alone_after : (related : Key → Automaton → ℕ → ℕ → Type 0) (next : Key → Automaton → Key) (key : Key) (a : Automaton) (classes : List ℕ)
    → ((p : ℕ) → related key a p p) → ((k : Key) (x : Automaton) (p q : ℕ) → related (next k x) a p q → related k a p q)
    → ((p : ℕ) → p < length classes → get_or classes p 0 ≡ p) → AreClassesBefore related next key a classes → AreClasses (related key a) (length a.states) classes
alone_after related next key a classes own finer alone before = record {
  count = before.are.count;
  related = λ p q lp lq.
      let count = before.are.count in (
        λ e. subst (related key a p) (single classes alone p q (omega arith) (omega arith) e) (own p),
        λ r. (before.are.related p q lp lq).1 (finer before.before before.refuted p q (subst (λ k. related k a p q) (sym before.leads) r)),
      );
}
