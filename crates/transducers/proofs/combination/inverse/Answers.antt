use Rattle.std.proofs.Common.{◌≡◌, ◌∙◌, sym, ap, subst}
use Rattle.transducers.specs.Transducer.{Transducer, IsValid, Relates}
use Rattle.transducers.proofs.CombinationLemmas.{inverse_of, IsValid-inverse, Relates-inverse}
use Rattle.transducers.proofs.combination.inverse.Goals as goal
use Rattle.transducers.proofs.combination.inverse.Goals.{In_ok-states}

the_transducer : In_ok-states → Transducer
the_transducer c = record { letters = c.a.inside.letters; starts = c.in_ok-starts.starts.items; states = c.in_ok-states.states.items }

is_inverse : (c : In_ok-states) → the_transducer c ≡ inverse_of c.args.a.now
unfolding the_transducer
is_inverse c =
    let starts = c.in_ok-starts.ensures.items ∙ c.as_slice.ensures.value ∙ ap (λ t. t.starts) c.a.view_is in
    let letters = ap (λ t. t.letters) c.a.view_is in
    λ i. record { letters = letters i; starts = starts i; states = c.in_ok-states.ensures i }

pub invariant_of-result : goal.invariant_of-result
unfolding the_transducer
invariant_of-result c = subst IsValid (sym (is_inverse c)) (IsValid-inverse c.args.a.now (subst IsValid c.a.view_is c.a.invariant))

pub returns-clause-inverse : goal.returns-clause-inverse
unfolding the_transducer
returns-clause-inverse c u w = subst (λ t. (Relates t u w → Relates c.args.a.now w u)
    × (Relates c.args.a.now w u → Relates t u w)) (sym (is_inverse c)) (Relates-inverse c.args.a.now u w)
