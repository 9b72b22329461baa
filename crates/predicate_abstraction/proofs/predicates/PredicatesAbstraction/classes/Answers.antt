use Rattle.std.proofs.Common.{length, subst}
use Rattle.std.proofs.lemmas.Result.{IfOk-weaker}
use Rattle.abstraction.specs.Merging.{AreClasses}
use Rattle.predicate_abstraction.specs.Predicates.{MeetSame, key_of}
use Rattle.predicate_abstraction.specs.private.Splitting.{AreClassesBy}
use Rattle.predicate_abstraction.proofs.Parts.{classes_by_all, key_automata}
use Rattle.predicate_abstraction.proofs.predicates.PredicatesAbstraction.classes.Goals as goal

pub returns : goal.returns
returns g c =
    let a = c.args.a.now in
    let inside = c.self.inside in
    IfOk-weaker c.classes_in_threads.result (λ classes. AreClassesBy c.deref.result.now a classes.items)
    (λ classes. AreClasses (MeetSame (key_of c.args.self.now).automata a) (length a.states) classes.items)
    (λ classes is. subst (λ ps. AreClasses (MeetSame ps a) (length a.states) classes.items)
    (key_automata inside.automata.items inside.started c.args.self.now c.self.view_is)
    (classes_by_all inside.automata.items a classes.items (subst (λ ps. AreClassesBy ps a classes.items) c.deref.ensures.value is)))
    c.classes_in_threads.ensures
