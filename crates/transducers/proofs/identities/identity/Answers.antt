use Rattle.std.proofs.Common.{◌≡◌, ◌∙◌, sym, subst}
use Rattle.word_automata.specs.Nondeterministic.{Accepts}
use Rattle.transducers.specs.Transducer.{Transducer, IsValid, Relates}
use Rattle.transducers.proofs.IdentityLemmas.{identity_of, IsValid-identity, Relates-identity}
use Rattle.transducers.proofs.identities.identity.Goals as goal
use Rattle.transducers.proofs.identities.identity.Goals.{After-letters}

the_transducer : After-letters → Transducer
the_transducer c = record { letters = c.letters.result; starts = c.in_ok-starts.starts.items; states = c.in_ok-states.states.items }

is_identity : (c : After-letters) → the_transducer c ≡ identity_of c.args.a.now
unfolding the_transducer
is_identity c =
    let starts = c.in_ok-starts.ensures.items ∙ c.starts.ensures.starts in
    λ i. record { letters = c.letters.ensures i; starts = starts i; states = c.in_ok-states.ensures i }

pub invariant_of-result : goal.invariant_of-result
unfolding the_transducer
invariant_of-result c = subst IsValid (sym (is_identity c)) (IsValid-identity c.args.a.now c.starts.ensures.in_range)

pub returns-clause-identity : goal.returns-clause-identity
unfolding the_transducer
returns-clause-identity c u w =
    subst (λ t. (Relates t u w → Accepts c.args.a.now u × (u ≡ w)) × (Accepts c.args.a.now u × (u ≡ w) → Relates t u w))
    (sym (is_identity c)) (Relates-identity c.args.a.now u w)
