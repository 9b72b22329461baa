use Rattle.std.proofs.Common.{sym, ap, subst, ◌∙◌}
use Rattle.word_automata.specs.Automaton.{Automaton, accepts}
use Rattle.minimise.specs.Canonical.{IsCanonical}
use Rattle.minimise.proofs.Unique.{is_unique}
use Rattle.minimise.proofs.canon.same.Goals as goal

pub returns-clause-language : goal.returns-clause-language
returns-clause-language c = (
  λ h. let e = sym c.a.view_is ∙ c.is_equal.ensures.0 h ∙ c.b.view_is in (ap (λ (m : Automaton). m.letters) e, λ w. ap (λ m. accepts m w) e),
  λ h. c.is_equal.ensures.1 (c.a.view_is ∙ is_unique c.args.a.now c.args.b.now (subst IsCanonical c.a.view_is c.a.invariant) (subst IsCanonical c.b.view_is c.b.invariant) h.0 h.1 ∙ sym c.b.view_is),
)
