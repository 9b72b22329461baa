use Rattle.std.proofs.Common.{◌≡◌, sym, subst, ◌∙◌}
use Rattle.word_automata.specs.Automaton.{accepts}
use Rattle.exploration.specs.DeterministicSystem.{accepts_by}
use Rattle.exploration.specs.Numbering.{StandsFor}
use Rattle.minimise.specs.Refinement.{HasLeastStates, quotient, IsLeastState}
use Rattle.minimise.proofs.LeastStates.{quotient_language, quotient_canonical}
use Rattle.minimise.specs.Canonical.{IsCanonical}
use Rattle.minimise.proofs.canon.canonical.Goals.{In_ok-dfa}
use Rattle.minimise.proofs.canon.canonical.Goals as goal

pub explore_classes-requires-clause-least : goal.explore_classes-requires-clause-least
explore_classes-requires-clause-least c = subst HasLeastStates (sym c.deref.ensures.value) c.in_ok-classes.ensures.coarse.least

canonical_at : (c : In_ok-dfa) → IsCanonical c.in_ok-dfa.dfa
canonical_at c =
    let m = c.args.automaton.now in
    let dfa = c.in_ok-dfa.dfa in
    quotient_canonical m c.in_ok-classes.classes.items c.in_ok-classes.ensures dfa
    (subst (λ xs. StandsFor (quotient m xs) (IsLeastState m xs) dfa) c.deref.ensures.value c.in_ok-dfa.ensures.states)
    c.in_ok-dfa.ensures.breadth_first c.in_ok-dfa.ensures.valid

pub invariant_of-result : goal.invariant_of-result
invariant_of-result c = canonical_at (goal.at.invariant_of-result c).In_ok-dfa

pub returns-clause-language : goal.returns-clause-language
returns-clause-language c =
    let m = c.args.automaton.now in
    let dfa = c.in_ok-dfa.dfa in
    λ w. sym (subst (λ xs. accepts dfa w ≡ accepts_by (quotient m xs) w) c.deref.ensures.value (c.in_ok-dfa.ensures.language w)
    ∙ quotient_language m c.in_ok-classes.classes.items c.in_ok-classes.ensures w)

pub returns-clause-canonical : goal.returns-clause-canonical
returns-clause-canonical c = canonical_at (goal.at.returns-clause-canonical c).In_ok-dfa
