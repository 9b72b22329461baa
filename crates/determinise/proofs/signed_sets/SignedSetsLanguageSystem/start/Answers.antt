use Rattle.std.proofs.Common.{◌↔◌, List, ℕ, subst}
use Rattle.word_automata.specs.Nondeterministic.{Accepts, AcceptsFromAny}
use Rattle.exploration.specs.Residuals.{StartsWith}
use Rattle.atoms.specs.Covers.{AcceptsWithin}
use Rattle.atoms.proofs.ForCallers.{signature_accepts}
use Rattle.determinise.proofs.signed_sets.SignedSetsLanguageSystem.start.Goals as goal

pub returns-in_ok-signed-in-Some-clause-start : goal.returns-in_ok-signed-in-Some-clause-start
returns-in_ok-signed-in-Some-clause-start c =
    let s = c.self.inside in
    let n = s.subsets.now.automaton.now in
    let signature = c.in_ok-signed-in-Some.field-0 in
    let same = subst (StartsWith (Accepts n) (AcceptsFromAny n)) c.in-Some.is c.in_ok-states.ensures.start in
    let there = signature_accepts n s.atoms.now c.self.invariant.2 c.in-Some.states signature c.in_ok-signed-in-Some.ensures in
    subst (λ v. (w : List ℕ) → Accepts v.0 w ↔ AcceptsWithin v.0 v.1 signature w) c.self.view_is
    (λ w. ((λ accepted. (there w).1 ((same w).0 accepted)), (λ accepted. (same w).1 ((there w).0 accepted))))

pub returns-in-None-clause-start : goal.returns-in-None-clause-start
returns-in-None-clause-start c =
    let n = c.self.inside.subsets.now.automaton.now in
    subst (λ v. (w : List ℕ) → Accepts v.0 w → ⊥) c.self.view_is (subst (StartsWith (Accepts n) (AcceptsFromAny n)) c.in-None.is c.in_ok-states.ensures.start)
