-- What is proved of a reversed task, told of the task.
use Rattle.std.proofs.Common.{◌≡◌, ◌+◌, ℕ, List, sym, subst, ◌∙◌, arith, IsTrue}
use Rattle.std.proofs.lemmas.Bool.{false_from_ne_true, false≢true}
use Rattle.word_automata.specs.Automaton.{Automaton, accepts}
use Rattle.minimise.specs.Canonical.{CanonicalIsLeast}
use Rattle.safety_problem.specs.Task.{Task, IsWordOver}
use Rattle.safety_problem.specs.Reversal.{reversed}
use Rattle.refinement.specs.declared.verdict.Verdict.{Verdict}
use Rattle.refinement.specs.declared.verdict.Verdict.TheVariants.{Safe, Unsafe, Unknown}
use Rattle.refinement.specs.Verdicts.{IsInvariant, IsProof, IsSound}
use Rattle.backward_search.specs.BackwardVerdicts.{IsComplementOf, IsToldBackward}
use Rattle.backward_search.proofs.Refusals.{complement_is_small}
use Rattle.backward_search.proofs.TurnedRuns.{turned_chain}

-- initial words are over the task's letters, and so are words with a step between them
pub record AreOverLetters (t : Task) : Type 0 where
  pub initial : (w : List ℕ) → t.is_initial w → IsWordOver t.letters w
  pub steps : (u w : List ℕ) → t.steps u w → IsWordOver t.letters u × IsWordOver t.letters w

-- the complement of an invariant of the reversed task is one of the task
complement_is_invariant : (t : Task) (m c : Automaton) → AreOverLetters t → m.letters ≡ t.letters → IsInvariant (reversed t) m → IsComplementOf m c → IsInvariant t c
complement_is_invariant t m c over same is complement = record {
  initial = λ w initial. kept w (over.initial w initial) (λ accepted. is.misses w accepted initial);
  closed = λ w (u, accepted, step). kept w (over.steps u w step).1 (λ held. not_refused u accepted (is.closed u (w, held, step)));
  misses = λ w accepted bad. not_refused w accepted (is.initial w bad);
}
  where
    kept : (w : List ℕ) → IsWordOver t.letters w → (IsTrue (accepts m w) → ⊥) → IsTrue (accepts c w)
    kept w letters refused = (complement.language w).1 (subst (λ n. IsWordOver n w) (sym same) letters, false_from_ne_true (accepts m w) refused)

    not_refused : (w : List ℕ) → IsTrue (accepts c w) → IsTrue (accepts m w) → ⊥
    not_refused w accepted held = false≢true (sym ((complement.language w).0 accepted).1 ∙ held)

complement_is_proof : (t : Task) (budget : ℕ) (m c : Automaton) → CanonicalIsLeast → AreOverLetters t → IsProof (reversed t) budget m → IsComplementOf m c
    → IsProof t (budget + 1) c
complement_is_proof t budget m c least over proof complement = record {
  invariant = complement_is_invariant t m c over proof.same_letters proof.invariant complement;
  canonical = complement.canonical;
  same_letters = complement.same_letters ∙ proof.same_letters;
  few = let small = complement_is_small least m c proof.canonical.valid complement in let few = proof.few in omega (arith, small, few);
}

-- a verdict that is sound for the reversed task is sound for the task when it is told the other way round
pub told_is_sound : (t : Task) (budget : ℕ) → CanonicalIsLeast → AreOverLetters t → (found verdict : Verdict) → IsSound (reversed t) budget found
    → IsToldBackward found verdict → IsSound t (budget + 1) verdict
told_is_sound t budget least over (Safe proof log) verdict sound (c, complement, told) =
    subst (IsSound t (budget + 1)) (sym told) (complement_is_proof t budget proof c least over sound complement)
told_is_sound t budget least over (Unsafe words log) verdict sound told = subst (IsSound t (budget + 1)) (sym told) (turned_chain t words sound)
told_is_sound t budget least over (Unknown log) verdict sound told = subst (IsSound t (budget + 1)) (sym told) tt
