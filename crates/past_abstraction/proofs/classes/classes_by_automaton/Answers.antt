use Rattle.std.proofs.Common.{length, take, sym, subst}
use Rattle.abstraction.specs.Bounds.{up_to}
use Rattle.abstraction.specs.Merging.{AreClasses}
use Rattle.past_abstraction.specs.Pasts.{is_related}
use Rattle.past_abstraction.proofs.PastClasses.{past_classes}
use Rattle.past_abstraction.proofs.classes.classes_by_automaton.Goals as goal

pub returns : goal.returns
returns c =
    let a = c.args.a.now in
    let bound = c.args.bound in
    let found = c.in_ok-classes.classes.items in
    let are = AreClasses (is_related (up_to bound) a) (length a.states) in
    let classes = past_classes a c.in_ok-automaton.automaton bound c.in_ok-automaton.ensures found c.in_ok-classes.ensures in
    subst are (sym c.truncate.ensures.items) (subst (λ n. are (take n found)) (sym c.states.ensures.count) classes)
