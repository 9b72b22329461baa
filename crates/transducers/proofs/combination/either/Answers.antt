use Rattle.std.proofs.Common.{◌≡◌, ◌⊎◌, sym, ap, subst}
use Rattle.transducers.specs.Transducer.{Transducer, IsValid, Relates}
use Rattle.transducers.proofs.CombinationLemmas.{union_of, union-is, appended_twice, IsValid-union, Relates-union}
use Rattle.transducers.proofs.combination.either.Goals as goal
use Rattle.transducers.proofs.combination.either.Goals.{After-a}

the_transducer : After-a → Transducer
the_transducer c = record {
  letters = c.a.inside.letters;
  starts = c.push_starts-2.new.starts.items;
  states = c.push_states-2.new.states.items;
}

is_union : (c : After-a) → the_transducer c ≡ union_of c.args.a.now c.args.b.now
unfolding the_transducer
is_union c =
    union-is c.args.a.now c.args.b.now _ c.states-behind.result _ _ (ap (λ t. t.letters) c.a.view_is) c.states-behind.ensures.states
    (appended_twice _ _ _ _ _ c.new-starts.ensures.items c.in_ok-push_starts.ensures c.in_ok-push_starts-2.ensures)
    (appended_twice _ _ _ _ _ c.in_ok-states.ensures.items c.in_ok-push_states.ensures c.in_ok-push_states-2.ensures)

pub invariant_of-result : goal.invariant_of-result
unfolding the_transducer
invariant_of-result c = subst IsValid (sym (is_union c))
    (IsValid-union c.args.a.now c.args.b.now c.states-behind.ensures.valid c.states.ensures.valid c.requires)

pub returns-clause-union : goal.returns-clause-union
unfolding the_transducer
returns-clause-union c u w =
    subst (λ t. (Relates t u w → Relates c.args.a.now u w ⊎ Relates c.args.b.now u w)
    × (Relates c.args.a.now u w ⊎ Relates c.args.b.now u w → Relates t u w)) (sym (is_union c))
    (Relates-union c.args.a.now c.args.b.now c.states-behind.ensures.valid c.states.ensures.valid c.requires u w)
